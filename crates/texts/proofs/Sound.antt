-- What the scan of a text tells is a reading of it. Assumes nothing.
use Rattle.std.proofs.Common.{◌≡◌, ℕ, ◌+◌, ◌<◌, ◌≤◌, true, ltb, List, [], ◌∷◌, ◌++◌, length, get_or, sym, refl, ap, ◌∙◌, subst, inl, inr, append_assoc, append-nil, arith}
use Rattle.std.proofs.lemmas.List.{length_push, length-append, take_at, get_or_at}
use Rattle.std.proofs.lemmas.Bool.{cond_both, ltb-true, ltb-false}
use Rattle.steps.specs.declared.names.Name.{Name}
use Rattle.steps.specs.Kinds.{name_text}
use Rattle.steps.specs.Making.{name_of}
use Rattle.steps.specs.Ranges.{name_byte, name_bytes}
use Rattle.steps.proofs.Naming.{name_of_text}
use Rattle.trails.specs.declared.endings.Cause.{Cause}
use Rattle.trails.specs.declared.endings.Cause.TheVariants.{JobSize, OddByte, NinthByte, NameDue, CutLine}
use Rattle.trails.specs.Jobs.{SizedTo}
use Rattle.trails.specs.Told.{Told, faulty}
use Rattle.trails.proofs.Sizes.{sized_push}
use Rattle.texts.specs.Tokens.{Byte, letter, space, line_end, odd, byte_of}
use Rattle.texts.specs.Scan.{turn, stop, scan}
use Rattle.texts.specs.Sizes.{Fits}
use Rattle.texts.specs.Reading.{spaced, written, Reached, Stands, ReadingTo}
use Rattle.texts.proofs.Bytes.{letter_is, space_is, line_end_is, name_bytes_push}
use Rattle.texts.proofs.Written.{spaced_push, line_push, written_push}

-- the bytes p are these jobs written out, and of one line more these names and the first bytes of another
record State (most : ℕ) (p : List ℕ) (js : List (List Name)) (had : List Name) (tail : List ℕ) : Type 0 where
  sized : SizedTo most js
  is : p ≡ written js ++ (spaced had ++ tail)
  fits : Fits most had tail
  short : length tail ≤ 8
  named : name_bytes tail ≡ true

-- the reading that is told after p, with those jobs ahead
abbrev Reads : ℕ → List ℕ → List (List Name) → Told Name → Type 0
Reads most text js t = ReadingTo most text (js ++ t.jobs) t.ending

module _ (most : ℕ) where
  -- what was reached after p, in a text that goes on
  reached : (p rest : List ℕ) (js : List (List Name)) (had : List Name) (tail : List ℕ) → State most p js had tail → Reached most (p ++ rest) (length p) js had tail
  reached p rest js had tail s = record {
    sized = s.sized;
    within = omega (arith, length-append p rest);
    up_to = take_at p rest (length p) refl ∙ s.is;
    fits = s.fits;
    short = s.short;
    named = s.named;
  }

  -- a fault at the byte after p
  module _ (p bs : List ℕ) (b : ℕ) (js : List (List Name)) (had : List Name) (tail : List ℕ) (s : State most p js had tail) where
    inside : length p < length (p ++ b ∷ bs)
    inside = omega (arith, length-append p (b ∷ bs))

    here : get_or (p ++ b ∷ bs) (length p) 0 ≡ b
    here = get_or_at p b bs 0 (length p) refl

    at_byte : (y : Byte) → byte_of b ≡ y → byte_of (get_or (p ++ b ∷ bs) (length p) 0) ≡ y
    at_byte y e = ap byte_of here ∙ e

    faults : (cause : Cause) → Stands most cause (p ++ b ∷ bs) (length p) had tail → Reads most (p ++ b ∷ bs) js (faulty cause (length p))
    faults cause stands = subst (λ ks. ReadingTo most (p ++ b ∷ bs) ks (faulty {S = Name} cause (length p)).ending) (sym (append-nil js)) (had, tail, reached p (b ∷ bs) js had tail s, stands)

    -- the text with this byte, and one more job ahead of what is told after it
    abbrev Onward : Type 0
    Onward = (ks : List (List Name)) (h : List Name) (t : List ℕ) → State most (p ++ b ∷ []) ks h t → Reads most (p ++ b ∷ bs) ks (scan most bs (length p + 1) h t)

    -- bytes that go to the end of what is begun
    grown : (c : List ℕ) → p ++ c ≡ written js ++ (spaced had ++ (tail ++ c))
    grown c = ap (λ q. q ++ c) s.is ∙ append_assoc (written js) (spaced had ++ tail) c ∙ ap (λ t. written js ++ t) (append_assoc (spaced had) tail c)

    letter_state : name_byte b ≡ true → length tail < 8 → length had < most → State most (p ++ b ∷ []) js had (tail ++ b ∷ [])
    letter_state e short room = record {
      sized = s.sized;
      is = grown (b ∷ []);
      fits = (s.fits.0, λ _. room);
      short = omega (arith, length_push tail b);
      named = name_bytes_push tail b s.named e;
    }

    -- the name that is begun is whole
    whole : 1 ≤ length tail → name_text (name_of tail) ≡ tail
    whole some = name_of_text tail (some, s.short, s.named)

    space_state : b ≡ 32 → 1 ≤ length tail → State most (p ++ b ∷ []) js (had ++ name_of tail ∷ []) []
    space_state e some =
        let room : length had < most = s.fits.1 some in
        record {
          sized = s.sized;
          is = grown (b ∷ []) ∙ ap (λ t. written js ++ t) (ap (λ c. spaced had ++ (tail ++ c ∷ [])) e ∙ ap (λ t. spaced had ++ (t ++ (32 ∷ []))) (sym (whole some)) ∙ sym (spaced_push had (name_of tail)) ∙ sym (append-nil (spaced (had ++ name_of tail ∷ []))));
          fits = (omega (arith, length_push had (name_of tail)), λ z. absurd (omega arith));
          short = omega arith;
          named = refl;
        }

    line_state : b ≡ 10 → 1 ≤ length tail → State most (p ++ b ∷ []) (js ++ (had ++ name_of tail ∷ []) ∷ []) [] []
    line_state e some =
        let room : length had < most = s.fits.1 some in
        let long : length (had ++ name_of tail ∷ []) ≡ length had + 1 = length_push had (name_of tail) in
        record {
          sized = sized_push most js (had ++ name_of tail ∷ []) s.sized (omega arith) (omega arith);
          is = grown (b ∷ []) ∙ ap (λ t. written js ++ t) (ap (λ c. spaced had ++ (tail ++ c ∷ [])) e ∙ ap (λ t. spaced had ++ (t ++ (10 ∷ []))) (sym (whole some)) ∙ sym (line_push had (name_of tail))) ∙ sym (written_push js (had ++ name_of tail ∷ [])) ∙ sym (append-nil (written (js ++ (had ++ name_of tail ∷ []) ∷ [])));
          fits = (omega arith, λ z. absurd (omega arith));
          short = omega arith;
          named = refl;
        }

  -- one byte
  turn_sound : (p bs : List ℕ) (b : ℕ) (js : List (List Name)) (had : List Name) (tail : List ℕ) (s : State most p js had tail) (y : Byte) → byte_of b ≡ y → Onward p bs b js had tail s
      → Reads most (p ++ b ∷ bs) js (turn most y b (length p) had tail (scan most bs (length p + 1)))
  turn_sound p bs b js had [] s letter e on =
      cond_both (ltb (length had) most) _ _ (Reads most (p ++ b ∷ bs) js)
      (λ r. on js had (b ∷ []) (letter_state p bs b js had [] s (letter_is b e) (omega arith) (ltb-true (length had) most r)))
      (λ r. faults p bs b js had [] s JobSize (inside p bs b js had [] s, at_byte p bs b js had [] s letter e, refl, omega (arith, s.fits.0, ltb-false (length had) most r)))
  turn_sound p bs b js had (t ∷ ts) s letter e on =
      cond_both (ltb (length (t ∷ ts)) 8) _ _ (Reads most (p ++ b ∷ bs) js)
      (λ r. on js had ((t ∷ ts) ++ b ∷ []) (letter_state p bs b js had (t ∷ ts) s (letter_is b e) (ltb-true (length (t ∷ ts)) 8 r) (s.fits.1 (omega arith))))
      (λ r. faults p bs b js had (t ∷ ts) s NinthByte (inside p bs b js had (t ∷ ts) s, at_byte p bs b js had (t ∷ ts) s letter e, omega (arith, s.short, ltb-false (length (t ∷ ts)) 8 r)))
  turn_sound p bs b js had [] s space e on = faults p bs b js had [] s NameDue (inside p bs b js had [] s, inl (at_byte p bs b js had [] s space e), refl)
  turn_sound p bs b js had (t ∷ ts) s space e on = on js (had ++ name_of (t ∷ ts) ∷ []) [] (space_state p bs b js had (t ∷ ts) s (space_is b e) (omega arith))
  turn_sound p bs b js had [] s line_end e on = faults p bs b js had [] s NameDue (inside p bs b js had [] s, inr (at_byte p bs b js had [] s line_end e), refl)
  turn_sound p bs b js had (t ∷ ts) s line_end e on =
      let k = scan most bs (length p + 1) [] [] in
      subst (λ ks. ReadingTo most (p ++ b ∷ bs) ks k.ending) (append_assoc js ((had ++ name_of (t ∷ ts) ∷ []) ∷ []) k.jobs) (on (js ++ (had ++ name_of (t ∷ ts) ∷ []) ∷ []) [] [] (line_state p bs b js had (t ∷ ts) s (line_end_is b e) (omega arith)))
  turn_sound p bs b js had tail s odd e on = faults p bs b js had tail s OddByte (inside p bs b js had tail s, at_byte p bs b js had tail s odd e)

  -- no byte is left
  stop_sound : (p : List ℕ) (js : List (List Name)) (had : List Name) (tail : List ℕ) → State most p js had tail → Reads most p js (stop (length p) had tail)
  stop_sound p js had tail s = by had tail s
    where
      cut : (h : List Name) (t : List ℕ) → State most p js h t → 1 ≤ length h + length t → Reads most p js (faulty CutLine (length p))
      cut h t st some = subst (λ ks. ReadingTo most p ks (faulty {S = Name} CutLine (length p)).ending) (sym (append-nil js)) (h, t, subst (λ q. Reached most q (length p) js h t) (append-nil p) (reached p [] js h t st), (refl, some))

      by : (h : List Name) (t : List ℕ) → State most p js h t → Reads most p js (stop (length p) h t)
      by [] [] st = subst (λ ks. SizedTo most ks × (p ≡ written ks)) (sym (append-nil js)) (st.sized, st.is ∙ append-nil (written js))
      by [] (c ∷ cs) st = cut [] (c ∷ cs) st (omega arith)
      by (n ∷ ns) t st = cut (n ∷ ns) t st (omega arith)

  scan_sound : (bs p : List ℕ) (js : List (List Name)) (had : List Name) (tail : List ℕ) → State most p js had tail → Reads most (p ++ bs) js (scan most bs (length p) had tail)
  unfolding scan
  scan_sound [] p js had tail s = subst (λ q. Reads most q js (stop (length p) had tail)) (sym (append-nil p)) (stop_sound p js had tail s)
  scan_sound (b ∷ bs) p js had tail s =
      turn_sound p bs b js had tail s (byte_of b) refl (λ ks h t st.
      subst (λ q. Reads most q ks (scan most bs (length p + 1) h t)) (append_assoc p (b ∷ []) bs)
      (subst (λ m. Reads most ((p ++ b ∷ []) ++ bs) ks (scan most bs m h t)) (length_push p b) (scan_sound bs (p ++ b ∷ []) ks h t st)))

  pub sound : (text : List ℕ) → ReadingTo most text (scan most text 0 [] []).jobs (scan most text 0 [] []).ending
  sound text = scan_sound text [] [] [] [] (record { sized = tt; is = refl; fits = (omega arith, λ z. absurd (omega arith)); short = omega arith; named = refl })
