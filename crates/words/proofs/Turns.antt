-- One word more. Assumes nothing.
use Rattle.std.proofs.Common.{Some, ◌≡◌, ℕ, zero, suc, ◌+◌, ◌-◌, ◌<◌, ◌≤◌, ◌&&◌, eqb, leb, List, length, get_or, take, drop, sym, refl, ap, ◌∙◌, subst, arith}
use Rattle.std.proofs.lemmas.List.{drop_more, drop_all, take_all, length-drop, get_or-drop}
use Rattle.std.proofs.lemmas.Bool.{cond_both}
use Rattle.std.proofs.lemmas.Bool.Decides.{nat_tests}
use Rattle.steps.specs.declared.codes.Code.{Code}
use Rattle.words.specs.declared.kinds.Word.{Word}
use Rattle.words.specs.declared.kinds.Word.TheVariants.{Event, Head, Stop, Filler}
use Rattle.words.specs.declared.verdicts.Verdict.{Verdict}
use Rattle.words.specs.declared.verdicts.Verdict.TheVariants.{Skip, Open, Take, Last, Close, Wrong}
use Rattle.words.specs.Words.{word_of}
use Rattle.trails.specs.Told.{Told, over}
use Rattle.words.specs.Scan.{scan, turn, judge_of, ran_out}

-- what is due ahead of a word, by the verdict on it
abbrev pub Ahead : Verdict → ℕ → Type 0
Ahead Skip due = Unit {0}
Ahead (Open n) due = (due ≡ 0) × (1 ≤ n) × (n ≤ 1000)
Ahead (Take c) due = 1 < due
Ahead (Last c) due = due ≡ 1
Ahead Close due = due ≡ 0
Ahead (Wrong cause) due = Unit {0}

ahead_of : (x : Word) (due : ℕ) → Ahead (judge_of x due) due
ahead_of Filler due = tt
ahead_of (Head n) zero = cond_both (leb 1 n && leb n 1000) _ _ (λ v. Ahead v 0) (λ e. (refl, grind (arith, nat_tests), grind (arith, nat_tests))) (λ _. tt)
ahead_of (Head n) (suc due) = tt
ahead_of (Stop n) zero = cond_both (eqb n 0) _ _ (λ v. Ahead v 0) (λ _. refl) (λ _. tt)
ahead_of (Stop n) (suc due) = tt
ahead_of (Event c) zero = tt
ahead_of (Event c) (suc zero) = refl
ahead_of (Event c) (suc (suc due)) = omega arith

pub ahead : (x : Word) (due : ℕ) (v : Verdict) → v ≡ judge_of x due → Ahead v due
ahead x due v e = subst (λ y. Ahead y due) (sym e) (ahead_of x due)

pub scan_end : (ws : List ℕ) (i due : ℕ) (had : List Code) → length ws ≤ i → scan (drop i ws) i due had ≡ over (Some (ran_out i))
unfolding scan
scan_end ws i due had h = ap (λ s. scan s i due had) (drop_all i ws h)

-- the word at a place says x, and v is the verdict on it
at_word : (t : Told Code) (ws : List ℕ) (i due : ℕ) (had : List Code) (x : Word) (v : Verdict) → t ≡ scan (drop i ws) i due had → i < length ws → x ≡ word_of (get_or ws i 0) → v ≡ judge_of x due → t ≡ turn v i due had (scan (drop (i + 1) ws) (i + 1))
unfolding scan
at_word t ws i due had x v e h p q =
    e ∙ ap (λ s. scan s i due had) (drop_more ws i 0 h)
    ∙ ap (λ y. turn (judge_of y due) i due had (scan (drop (i + 1) ws) (i + 1))) (sym p)
    ∙ ap (λ y. turn y i due had (scan (drop (i + 1) ws) (i + 1))) (sym q)

-- the words from a place on, as a slice of the words
module _ (ws : List ℕ) (at : ℕ) where
  rest_is : take (length ws - at) (drop at ws) ≡ drop at ws
  rest_is = take_all (length ws - at) (drop at ws) (omega (arith, length-drop at ws))

  pub length-rest : length (take (length ws - at) (drop at ws)) ≡ length ws - at
  length-rest = ap length rest_is ∙ length-drop at ws

  -- the word at i of those says x, and v is the verdict on it
  pub at_rest : (t : Told Code) (i due : ℕ) (had : List Code) (x : Word) (v : Verdict) → t ≡ scan (drop (at + i) ws) (at + i) due had → i < length (take (length ws - at) (drop at ws)) → x ≡ word_of (get_or (take (length ws - at) (drop at ws)) i 0) → v ≡ judge_of x due
      → t ≡ turn v (at + i) due had (scan (drop (at + (i + 1)) ws) (at + (i + 1)))
  at_rest t i due had x v e h p q =
      let within : at + i < length ws = omega (arith, length-rest) in
      let next : at + i + 1 ≡ at + (i + 1) = omega arith in
      let said : x ≡ word_of (get_or ws (at + i) 0) = p ∙ ap word_of (ap (λ s. get_or s i 0) rest_is ∙ get_or-drop at ws i 0) in
      at_word t ws (at + i) due had x v e within said q ∙ ap (λ j. turn v (at + i) due had (scan (drop j ws) j)) next
