-- A fault stands where a text first goes wrong. Assumes nothing.
use Rattle.std.proofs.Common.{◌≡◌, ℕ, ◌+◌, ◌<◌, ◌≤◌, List, [], ◌∷◌, ◌++◌, length, get_or, take, sym, refl, ap, ◌∙◌, inl, inr, append_assoc, append-nil, arith}
use Rattle.std.proofs.lemmas.List.{length-append, length_push, length-take-le, take_at, take-take, get_or-take}
use Rattle.steps.specs.declared.names.Name.{Name}
use Rattle.steps.specs.Kinds.{name_text}
use Rattle.steps.specs.Making.{name_of}
use Rattle.steps.proofs.Naming.{name_of_text}
use Rattle.trails.specs.declared.endings.Cause.{Cause}
use Rattle.trails.specs.declared.endings.Cause.TheVariants.{OutOfTurn, JobSize, WordsRunOut, EndBits, OddByte, NinthByte, NameDue, CutLine}
use Rattle.std.specs.Prelude.{None as End, Some as Fault}
use Rattle.trails.specs.declared.endings.TrailFault.{TrailFault}
use Rattle.trails.proofs.Sizes.{sized_push, sized_more}
use Rattle.texts.specs.Tokens.{byte_of}
use Rattle.texts.specs.Reading.{spaced, written, Reached, Stands, ReadingTo, Reading, Viable, FirstStuck}
use Rattle.texts.proofs.Written.{line_push, written_push}
use Rattle.texts.proofs.Complete.{complete}

-- a text does not end both ways
not_both : (most : ℕ) (text : List ℕ) (js ks : List (List Name)) (f : TrailFault) → ReadingTo most text js (Fault f) → ReadingTo most text ks End → ⊥
not_both most text js ks f p q =
    let a = sym (complete most text js (Fault f) p) ∙ complete most text ks End q in
    let e : Fault f ≡ End = ap (λ t. t.ending) a in
    let z : ◌≡◌ {A = ℕ} 0 1 = cc in
    omega arith

-- what stands at a place is told by the text up to and with it
module _ (text other : List ℕ) (i : ℕ) (inside : i < length text) (within : i < length other) (same : take (i + 1) other ≡ take (i + 1) text) where
  same_byte : get_or other i 0 ≡ get_or text i 0
  same_byte = sym (get_or-take (i + 1) other i 0 (omega arith)) ∙ ap (λ t. get_or t i 0) same ∙ get_or-take (i + 1) text i 0 (omega arith)

  same_front : take i other ≡ take i text
  same_front = sym (take-take i (i + 1) other (omega arith)) ∙ ap (take i) same ∙ take-take i (i + 1) text (omega arith)

  stands_too : (most : ℕ) (c : Cause) (names : List Name) (tail : List ℕ) → (c ≡ JobSize → most ≡ 1000) → Stands 1000 c text i names tail → Stands most c other i names tail
  stands_too most JobSize names tail limit (h, e, empty, full) = (within, ap byte_of same_byte ∙ e, empty, omega (arith, limit refl))
  stands_too most OddByte names tail limit (h, e) = (within, ap byte_of same_byte ∙ e)
  stands_too most NinthByte names tail limit (h, e, full) = (within, ap byte_of same_byte ∙ e, full)
  stands_too most NameDue names tail limit (h, inl e, empty) = (within, inl (ap byte_of same_byte ∙ e), empty)
  stands_too most NameDue names tail limit (h, inr e, empty) = (within, inr (ap byte_of same_byte ∙ e), empty)
  stands_too most CutLine names tail limit (last, some) = absurd (omega arith)
  stands_too most OutOfTurn names tail limit none = absurd none
  stands_too most WordsRunOut names tail limit none = absurd none
  stands_too most EndBits names tail limit none = absurd none

  reads_too : (most : ℕ) (c : Cause) (js : List (List Name)) → 1000 ≤ most → (c ≡ JobSize → most ≡ 1000) → Reading text js (Fault (record { cause = c; place = i })) → ReadingTo most other js (Fault (record { cause = c; place = i }))
  reads_too most c js more limit (names, tail, r, stands) = (
    names,
    tail,
    record {
      sized = sized_more 1000 most js more r.sized;
      within = omega arith;
      up_to = same_front ∙ r.up_to;
      fits = (omega (arith, r.fits.0), λ some. omega (arith, r.fits.1 some));
      short = r.short;
      named = r.named;
    },
    stands_too most c names tail limit stands,
  )

-- a line that is begun can be ended
viable : (text : List ℕ) (i : ℕ) (js : List (List Name)) (names : List Name) (tail : List ℕ) → Reached 1000 text i js names tail → Viable (take i text)
viable text i js names tail r = by tail r
  where
    ends : (t u : List ℕ) (n : Name) → Reached 1000 text i js names t → name_text n ≡ t ++ u → Viable (take i text)
    ends t u n s e =
        let whole : take i text ++ (u ++ (10 ∷ [])) ≡ written (js ++ (names ++ n ∷ []) ∷ []) =
        ap (λ x. x ++ (u ++ (10 ∷ []))) s.up_to
        ∙ append_assoc (written js) (spaced names ++ t) (u ++ (10 ∷ []))
        ∙ ap (λ x. written js ++ x) (append_assoc (spaced names) t (u ++ (10 ∷ [])) ∙ ap (λ x. spaced names ++ x) (sym (append_assoc t u (10 ∷ [])) ∙ ap (λ x. x ++ (10 ∷ [])) (sym e)) ∙ sym (line_push names n))
        ∙ sym (written_push js (names ++ n ∷ [])) in
        let long : length (names ++ n ∷ []) ≡ length names + 1 = length_push names n in
        (1001, u ++ (10 ∷ []), js ++ (names ++ n ∷ []) ∷ [], sized_push 1001 js (names ++ n ∷ []) (sized_more 1000 1001 js (omega arith) s.sized) (omega arith) (omega (arith, s.fits.0)), whole)

    by : (t : List ℕ) → Reached 1000 text i js names t → Viable (take i text)
    by [] s = ends [] (65 ∷ []) (name_of (65 ∷ [])) s (name_of_text (65 ∷ []) (omega arith, omega arith, refl))
    by (c ∷ cs) s = ends (c ∷ cs) [] (name_of (c ∷ cs)) s (name_of_text (c ∷ cs) (omega arith, s.short, s.named) ∙ sym (append-nil (c ∷ cs)))

pub first_stuck : (text : List ℕ) (js : List (List Name)) (f : TrailFault) → Reading text js (Fault f) → FirstStuck text f
first_stuck text js f r = record {
  viable = viable text f.place js r.0 r.1 r.2;
  stuck = λ inside other (most, more, ks, s, is).
      let e = front inside more in
      not_both (most + 1000) (take (f.place + 1) text ++ more) js ks f
      (reads_too text (take (f.place + 1) text ++ more) f.place inside (omega (arith, ap length e, length-take-le (f.place + 1) text (omega arith), length-append (take (f.place + 1) text) more)) e (most + 1000) f.cause js (omega arith) (λ z. absurd (other z)) r)
      (sized_more most (most + 1000) ks (omega arith) s, is);
  crowded = λ inside more ks s is.
      let e = front inside more in
      not_both 1000 (take (f.place + 1) text ++ more) js ks f
      (reads_too text (take (f.place + 1) text ++ more) f.place inside (omega (arith, ap length e, length-take-le (f.place + 1) text (omega arith), length-append (take (f.place + 1) text) more)) e 1000 f.cause js (omega arith) (λ z. refl) r)
      (s, is);
  unlawful = λ ks s is. not_both 1000 text js ks f r (s, is);
}
  where
    front : f.place < length text → (more : List ℕ) → take (f.place + 1) (take (f.place + 1) text ++ more) ≡ take (f.place + 1) text
    front inside more = take_at (take (f.place + 1) text) more (f.place + 1) (length-take-le (f.place + 1) text (omega arith))
