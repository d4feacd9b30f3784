-- A word and its written form. Assumes nothing.
use Rattle.std.proofs.Common.{◌≡◌, ℕ, ◌+◌, ◌/◌, ◌%◌, ◌^◌, ◌≤◌, sym, refl, ap, ◌∙◌, arith}
use Rattle.std.proofs.lemmas.Bool.Decides.{nat_tests}
use Rattle.std.proofs.lemmas.Bool.{cond-true, cond-false, eq-eqb, ne_eqb}
use Rattle.steps.specs.declared.codes.Code.{Code}
use Rattle.steps.specs.Alike.{same_code}
use Rattle.words.specs.declared.kinds.Word.TheVariants.{Event, Head, Stop}
use Rattle.words.specs.Words.{code_of, word_of, event_word, head_word, end_word}

pub event_is : (w : ℕ) (c : Code) → word_of w ≡ Event c → w ≡ event_word c
event_is w c e =
    let k : w / 2 ^ 30 ≡ 0 = grind (arith, nat_tests) in
    let s : Event (code_of w) ≡ Event c = sym (cond-true _ _ _ (eq-eqb _ 0 k)) ∙ e in
    let u : code_of w ≡ c = cc in
    let whole : w ≡ event_word (code_of w) = omega arith in
    whole ∙ ap event_word u

pub head_is : (w n : ℕ) → word_of w ≡ Head n → w ≡ head_word n
head_is w n e = grind (arith, nat_tests)

pub end_is : (w n : ℕ) → word_of w ≡ Stop n → w ≡ end_word + n
end_is w n e = grind (arith, nat_tests)

pub event_says : (c : Code) → word_of (event_word c) ≡ Event c
event_says c =
    let k : event_word c / 2 ^ 30 ≡ 0 = omega arith in
    let u : (code_of (event_word c)).unit ≡ c.unit = omega arith in
    let v : (code_of (event_word c)).code ≡ c.code = omega arith in
    cond-true _ _ _ (eq-eqb _ 0 k) ∙ ap Event (same_code _ _ u v)

pub head_says : (n : ℕ) → n ≤ 1000 → word_of (head_word n) ≡ Head n
head_says n h =
    let k : head_word n / 2 ^ 30 ≡ 1 = omega arith in
    let r : head_word n % 2 ^ 30 ≡ n = omega arith in
    let some : head_word n / 2 ^ 30 ≡ 0 → ⊥ = λ z. omega arith in
    cond-false _ _ _ (ne_eqb _ 0 some) ∙ cond-true _ _ _ (eq-eqb _ 1 k) ∙ ap Head r

pub end_says : word_of end_word ≡ Stop 0
end_says = refl
