-- The steps of a set, ascending, from one of them on
use Rattle.std.proofs.Common.{◌≡◌, ℕ, zero, suc, ◌+◌, ◌-◌, ◌<◌, ◌≤◌, Bool, true, false, [], ◌∷◌, filter, Option, Some, None, MatchOption, refl, ap, ◌∙◌, ⊎_elim, arith}
use Rattle.std.specs.List.{range_with_len}
use Rattle.std.proofs.lemmas.Bool.{cases_eq, cond-true, cond-false}
use Rattle.flow.specs.Bits.{bit, members_from}

module _ (t : ℕ → Bool) where
  none : (n a : ℕ) → ((k : ℕ) → a ≤ k → k < a + n → t k ≡ false) → filter t (range_with_len a n) ≡ []
  none zero a h = refl
  none (suc n) a h = cond-false _ _ _ (h a (omega arith) (omega arith)) ∙ none n (a + 1) (λ k l m. h k (omega arith) (omega arith))

  first : (n a i : ℕ) → a ≤ i → i < a + n → t i ≡ true → ((k : ℕ) → a ≤ k → k < i → t k ≡ false) → filter t (range_with_len a n) ≡ i ∷ filter t (range_with_len (i + 1) (a + n - (i + 1)))
  first zero a i l m e h = absurd (omega arith)
  first (suc n) a i l m e h =
      ⊎_elim
      (λ s. let rest : n ≡ i + suc n - (i + 1) = omega arith in cond-true _ _ _ (ap t s ∙ e) ∙ rw (s, ← rest) refl)
      (λ s. let rest : a + 1 + n ≡ a + suc n = omega arith in cond-false _ _ _ (h a (omega arith) (omega arith)) ∙ first n (a + 1) i (omega arith) (omega arith) e (λ k l m. h k (omega arith) m) ∙ rw rest refl)
      (cases_eq a i)

-- the first of them, where a search for it found what it did
pub first_member : (g a : ℕ) (r : Option ℕ) → MatchOption r ((k : ℕ) → a ≤ k → k < 32 → bit g k ≡ false) (λ i. (a ≤ i) × (i < 32) × (bit g i ≡ true) × ((k : ℕ) → a ≤ k → k < i → bit g k ≡ false)) → MatchOption r (members_from g a ≡ []) (λ i. (i < 32) × (members_from g a ≡ i ∷ members_from g (i + 1)))
unfolding members_from
first_member g a None h = none (bit g) (32 - a) a (λ k l m. h k l (omega arith))
first_member g a (Some i) h =
    let small : i < 32 = h.1 in
    let low : a ≤ i = h.0 in
    let rest : a + (32 - a) - (i + 1) ≡ 32 - (i + 1) = omega arith in
    (small, first (bit g) (32 - a) a i low (omega arith) h.2 h.3 ∙ ap (λ n. i ∷ filter (bit g) (range_with_len (i + 1) n)) rest)
