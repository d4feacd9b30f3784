-- A fault stands at the first place from which nothing makes the words lawful. Assumes nothing.
use Rattle.std.proofs.Common.{◌≡◌, ℕ, ◌+◌, ◌-◌, ◌<◌, ◌⊎◌, List, [], ◌∷◌, ◌++◌, map, length, get_or, take, replicate, sym, refl, ap, ◌∙◌, subst, subst₂, inl, inr, ⊎_elim, arith}
use Rattle.std.proofs.lemmas.List.{append_assoc, length-append, length-replicate, length-take-le, take-append-le, take-take, take_all, get_or_append_left, get_or-take}
use Rattle.steps.specs.declared.codes.Code.{Code}
use Rattle.trails.specs.declared.endings.Cause.{Cause}
use Rattle.trails.specs.declared.endings.Cause.TheVariants.{OutOfTurn, JobSize, WordsRunOut, EndBits, OddByte, NinthByte, NameDue, CutLine}
use Rattle.trails.specs.declared.endings.TrailFault.{TrailFault}
use Rattle.std.specs.Prelude.{None as End, Some as Fault}
use Rattle.trails.proofs.Sizes.{sized_push}
use Rattle.words.specs.Words.{code_of, event_word, head_word, end_word, written, stripped}
use Rattle.words.specs.Scan.{from}
use Rattle.words.specs.Reading.{Whole, Unfinished, WrongWord, Reading, LawfulWords, Viable, FirstHopeless}
use Rattle.words.proofs.Stripping.{stripped_append, stripped_events, written_job}
use Rattle.words.proofs.Complete.{only}
use Rattle.words.proofs.Sound.{reads}

whole_viable : (js : List (List Code)) (p : List ℕ) → Whole js p → Viable p
whole_viable js p h = (end_word ∷ [], (js, (p, [], refl, h)))

-- the job that is begun is completed by any codes
unfinished_viable : (js : List (List Code)) (p : List ℕ) → Unfinished js p → Viable p
unfinished_viable js p u =
    let n = u.0 in
    let had = u.1 in
    let b = u.2 in
    let cs = replicate (n - length had) (code_of 0) in
    let more = map event_word cs in
    let size : length (had ++ cs) ≡ n = length-append had cs ∙ omega (arith, length-replicate (n - length had) (code_of 0), b.2) in
    let all : stripped (p ++ more) ≡ written (js ++ (had ++ cs) ∷ []) =
    stripped_append p more ∙ ap (λ x. x ++ stripped more) b.3 ∙ ap (λ x. (written js ++ head_word n ∷ map event_word had) ++ x) (stripped_events cs) ∙ written_job js had cs n size in (
      more ++ end_word ∷ [],
      (
        js ++ (had ++ cs) ∷ [],
        (p ++ more, [], sym (append_assoc p more (end_word ∷ [])), (sized_push 1000 js (had ++ cs) b.0 (omega (arith, b.2)) (omega (arith, b.1)), all)),
      ),
    )

viable : (js : List (List Code)) (p : List ℕ) → Whole js p ⊎ Unfinished js p → Viable p
viable js p h = ⊎_elim (whole_viable js p) (unfinished_viable js p) h

-- what stands ahead of a wrong word
pub front : (cause : Cause) (js : List (List Code)) (p : List ℕ) (w : ℕ) → WrongWord cause js p w → Whole js p ⊎ Unfinished js p
front OutOfTurn js p w h = ⊎_elim (λ a. inl a.0) (λ b. inr b.0) h
front JobSize js p w h = inl h.0
front EndBits js p w h = inl h.0
front WordsRunOut js p w h = absurd h
front OddByte js p w h = absurd h
front NinthByte js p w h = absurd h
front NameDue js p w h = absurd h
front CutLine js p w h = absurd h

-- words that have a fault are not lawful
faulty : (ws : List ℕ) (js : List (List Code)) (f : TrailFault) → Reading ws js (Fault f) → LawfulWords ws → ⊥
faulty ws js f r l =
    let a : Fault f ≡ (from ws 0).ending = (only ws js (Fault f) r).1 in
    let b : End ≡ (from ws 0).ending = (only ws l.0 End l.1).1 in
    let z : ◌≡◌ {A = ℕ} 0 1 = cc in
    omega arith

-- a wrong word is wrong whatever stands after it
module _ (ws : List ℕ) (js : List (List Code)) (f : TrailFault) where
  wrong_still : (q : List ℕ) → f.place < length ws → WrongWord f.cause js (take f.place ws) (get_or ws f.place 0) → Reading (take (f.place + 1) ws ++ q) js (Fault f)
  wrong_still q l h =
      let i = f.place in
      let size : length (take (i + 1) ws) ≡ i + 1 = length-take-le (i + 1) ws (omega arith) in
      let ahead : take i (take (i + 1) ws ++ q) ≡ take i ws = take-append-le i (take (i + 1) ws) q (omega arith) ∙ take-take i (i + 1) ws (omega arith) in
      let here : get_or (take (i + 1) ws ++ q) i 0 ≡ get_or ws i 0 = get_or_append_left (take (i + 1) ws) q 0 i (omega arith) ∙ get_or-take (i + 1) ws i 0 (omega arith) in
      inl (omega (arith, length-append (take (i + 1) ws) q), subst₂ (λ x y. WrongWord f.cause js x y) (sym ahead) (sym here) h)

  hopeless : Reading ws js (Fault f) → FirstHopeless ws f.place
  hopeless r = (
    ⊎_elim (λ h. viable js (take f.place ws) (front f.cause js (take f.place ws) (get_or ws f.place 0) h.1))
        (λ h. subst Viable (sym (take_all f.place ws (omega (arith, h.0)))) (viable js ws h.2)) r,
    λ l v. ⊎_elim {C = ⊥} (λ h. faulty (take (f.place + 1) ws ++ v.0) js f (wrong_still v.0 h.0 h.1) v.1) (λ h. omega (arith, h.0)) r,
    faulty ws js f r,
  )

pub stuck : (ws : List ℕ) (f : TrailFault) → (from ws 0).ending ≡ Fault f → FirstHopeless ws f.place
stuck ws f e = hopeless ws (from ws 0).jobs f (subst (Reading ws (from ws 0).jobs) e (reads ws))
