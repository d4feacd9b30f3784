-- What the scan tells is a reading of the words. Assumes nothing.
use Rattle.std.proofs.Common.{◌≡◌, ℕ, zero, suc, ◌+◌, ◌-◌, ◌≤◌, ◌&&◌, eqb, leb, List, [], ◌∷◌, ◌++◌, map, length, sym, refl, ap, ◌∙◌, subst, subst₂, inl, inr, arith}
use Rattle.std.proofs.lemmas.List.{append_assoc, append-nil, length-append, length_push, take_at, get_or_at, map-append}
use Rattle.std.proofs.lemmas.Bool.{cond_both, eqb-true}
use Rattle.std.proofs.lemmas.Bool.Decides.{nat_tests}
use Rattle.steps.specs.declared.codes.Code.{Code}
use Rattle.trails.specs.declared.endings.Cause.{Cause}
use Rattle.trails.specs.declared.endings.Cause.TheVariants.{OutOfTurn, JobSize, EndBits}
use Rattle.std.specs.Prelude.{None as End, Some as Fault}
use Rattle.trails.proofs.Sizes.{sized_push}
use Rattle.words.specs.declared.kinds.Word.{Word}
use Rattle.words.specs.declared.kinds.Word.TheVariants.{Event, Head, Stop, Filler}
use Rattle.words.specs.Words.{word_of, event_word, head_word, end_word, written, stripped}
use Rattle.trails.specs.Told.{Told}
use Rattle.words.specs.Scan.{judge_of, turn, ran_out, scan, from}
use Rattle.words.specs.Reading.{Whole, Begun, WrongWord, Reading}
use Rattle.words.proofs.Forms.{event_is, head_is, end_is}
use Rattle.words.proofs.Stripping.{stripped_push, written_job}

-- the words p are read: whole jobs js, and one more begun where events are due
abbrev State : List ℕ → List (List Code) → ℕ → List Code → Type 0
State p js zero had = (had ≡ []) × Whole js p
State p js (suc due) had = Begun js (suc due + length had) had p

-- the words ws give the jobs js and what t tells
abbrev Reads : List ℕ → List (List Code) → (Told Code) → Type 0
Reads ws js t = Reading ws (js ++ t.jobs) t.ending

reads_ran_out : (p : List ℕ) (js : List (List Code)) (due : ℕ) (had : List Code) → State p js due had → Reading p js (Fault (ran_out (length p)))
reads_ran_out p js zero had s = inr (refl, refl, inl s.1)
reads_ran_out p js (suc due) had s = inr (refl, refl, inr (suc due + length had, had, s))

-- the word w after the words p
module _ (p : List ℕ) (w : ℕ) (js : List (List Code)) where
  wrong_here : (ws : List ℕ) (i : ℕ) (cause : Cause) → i ≡ length p → WrongWord cause js p w → Reading (p ++ w ∷ ws) (js ++ []) (Fault (record { cause = cause; place = i }))
  wrong_here ws i cause e h =
      subst (λ x. Reading (p ++ w ∷ ws) x (Fault (record { cause = cause; place = i }))) (sym (append-nil js))
      (inl (
        omega (arith, length-append p (w ∷ ws)),
        subst₂ (λ x y. WrongWord cause js x y) (sym (take_at p (w ∷ ws) i (sym e))) (sym (get_or_at p w ws 0 i (sym e))) h,
      ))

  ends_here : (ws : List ℕ) → w ≡ end_word → Whole js p → Reading (p ++ w ∷ ws) (js ++ []) End
  ends_here ws e h = subst (λ x. Reading (p ++ w ∷ ws) x End) (sym (append-nil js)) (p, ws, ap (λ x. p ++ x ∷ ws) e, h)

  same_left : word_of w ≡ Filler → stripped (p ++ w ∷ []) ≡ stripped p
  same_left e = stripped_push p w Filler e ∙ append-nil (stripped p)

  skipped : (due : ℕ) (had : List Code) → word_of w ≡ Filler → State p js due had → State (p ++ w ∷ []) js due had
  skipped zero had e s = (s.0, (s.1.0, same_left e ∙ s.1.1))
  skipped (suc due) had e s = (s.0, s.1, s.2, same_left e ∙ s.3)

  opened : (n : ℕ) → word_of w ≡ Head n → 1 ≤ n → n ≤ 1000 → Whole js p → State (p ++ w ∷ []) js n []
  opened zero e a b h = absurd (omega arith)
  opened (suc n) e a b h =
      let size : suc n ≡ suc n + length {A = Code} [] = omega arith in
      subst (λ m. Begun js m [] (p ++ w ∷ [])) size
      (h.0, b, omega arith, stripped_push p w (Head (suc n)) e ∙ ap (λ x. x ++ w ∷ []) h.1 ∙ ap (λ x. written js ++ x ∷ []) (head_is w (suc n) e))

  -- one event more of the job that is begun
  one_more : (c : Code) (n : ℕ) (had : List Code) → word_of w ≡ Event c → Begun js n had p → stripped (p ++ w ∷ []) ≡ (written js ++ head_word n ∷ map event_word had) ++ map event_word (c ∷ [])
  one_more c n had e h = stripped_push p w (Event c) e ∙ ap (λ x. x ++ w ∷ []) h.3 ∙ ap (λ x. (written js ++ head_word n ∷ map event_word had) ++ x ∷ []) (event_is w c e)

  taken : (c : Code) (due : ℕ) (had : List Code) → word_of w ≡ Event c → State p js (suc (suc due)) had → State (p ++ w ∷ []) js (suc due) (had ++ c ∷ [])
  taken c due had e h =
      let long = length_push had c in
      let size : suc (suc due) + length had ≡ suc due + length (had ++ c ∷ []) = omega arith in
      subst (λ m. Begun js m (had ++ c ∷ []) (p ++ w ∷ [])) size (
        h.0,
        h.1,
        omega arith,
        one_more c (suc (suc due) + length had) had e h
            ∙ append_assoc (written js) (head_word (suc (suc due) + length had) ∷ map event_word had) (map event_word (c ∷ []))
            ∙ ap (λ x. written js ++ head_word (suc (suc due) + length had) ∷ x) (sym (map-append event_word had (c ∷ []))),
      )

  done : (c : Code) (had : List Code) → word_of w ≡ Event c → State p js 1 had → State (p ++ w ∷ []) (js ++ (had ++ c ∷ []) ∷ []) 0 []
  done c had e h =
      let long = length_push had c in (
        refl,
        (
          sized_push 1000 js (had ++ c ∷ []) h.0 (omega arith) (omega (arith, h.1)),
          one_more c (1 + length had) had e h ∙ written_job js had (c ∷ []) (1 + length had) (omega arith),
        ),
      )

  -- what one word makes of the state, where what follows is read well
  module _ (ws : List ℕ) (i : ℕ) (e : i ≡ length p) (next : (ks : List (List Code)) (due : ℕ) (had : List Code) → State (p ++ w ∷ []) ks due had → Reads (p ++ w ∷ ws) ks (scan ws (i + 1) due had)) where
    step : (x : Word) (due : ℕ) (had : List Code) → word_of w ≡ x → State p js due had → Reads (p ++ w ∷ ws) js (turn (judge_of x due) i due had (scan ws (i + 1)))
    step Filler due had x s = next js due had (skipped due had x s)
    step (Head n) zero had x s =
        cond_both (leb 1 n && leb n 1000) _ _ (λ v. Reads (p ++ w ∷ ws) js (turn v i 0 had (scan ws (i + 1))))
        (λ t. next js n [] (opened n x (grind (arith, nat_tests)) (grind (arith, nat_tests)) s.1))
        (λ f. wrong_here ws i JobSize e (s.1, (n, x, grind (arith, nat_tests))))
    step (Head n) (suc due) had x s = wrong_here ws i OutOfTurn e (inr ((suc due + length had, had, s), inl (n, x)))
    step (Stop n) zero had x s =
        cond_both (eqb n 0) _ _ (λ v. Reads (p ++ w ∷ ws) js (turn v i 0 had (scan ws (i + 1))))
        (λ t. ends_here ws (omega (arith, end_is w n x, eqb-true n 0 t)) s.1)
        (λ f. wrong_here ws i EndBits e (s.1, (n, x, grind (arith, nat_tests))))
    step (Stop n) (suc due) had x s = wrong_here ws i OutOfTurn e (inr ((suc due + length had, had, s), inr (n, x)))
    step (Event c) zero had x s = wrong_here ws i OutOfTurn e (inl (s.1, (c, x)))
    step (Event c) (suc zero) had x s =
        subst (λ ks. Reading (p ++ w ∷ ws) ks (scan ws (i + 1) 0 []).ending) (append_assoc js ((had ++ c ∷ []) ∷ []) (scan ws (i + 1) 0 []).jobs)
        (next (js ++ (had ++ c ∷ []) ∷ []) 0 [] (done c had x s))
    step (Event c) (suc (suc due)) had x s =
        let less : suc due ≡ suc (suc due) - 1 = omega arith in
        subst (λ d. Reads (p ++ w ∷ ws) js (scan ws (i + 1) d (had ++ c ∷ []))) less (next js (suc due) (had ++ c ∷ []) (taken c due had x s))

sound : (ws p : List ℕ) (js : List (List Code)) (i due : ℕ) (had : List Code) → i ≡ length p → State p js due had → Reads (p ++ ws) js (scan ws i due had)
unfolding scan
sound [] p js i due had e s =
    subst₂ (λ x y. Reading x y (Fault (ran_out i))) (sym (append-nil p)) (sym (append-nil js)) (subst (λ n. Reading p js (Fault (ran_out n))) (sym e) (reads_ran_out p js due had s))
sound (w ∷ ws) p js i due had e s =
    step p w js ws i e
    (λ ks d h t. subst (λ x. Reads x ks (scan ws (i + 1) d h)) (append_assoc p (w ∷ []) ws) (sound ws (p ++ w ∷ []) ks (i + 1) d h (omega (arith, length_push p w)) t))
    (word_of w) due had refl s

pub reads : (ws : List ℕ) → Reading ws (from ws 0).jobs (from ws 0).ending
reads ws = sound ws [] [] 0 0 [] refl (refl, (tt, refl))
