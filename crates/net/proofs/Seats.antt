-- The place of a step, and the places of all looping steps
use Rattle.std.proofs.Common.{◌≡◌, ℕ, zero, suc, ◌+◌, ◌^◌, ◌<◌, ◌≤◌, Bool, true, false, cond, ◌&&◌, eqb, ltb, List, [], ◌∷◌, length, Some, None, sym, refl, ap, ◌∙◌, ⊎_elim, eq-eqb, arith}
use Rattle.std.specs.List.{range_with_len, position as first}
use Rattle.std.proofs.lemmas.List.Recursion.{is_position_or_len}
use Rattle.std.proofs.lemmas.Bool.{eqb-true, ne_eqb, and_parts, and_from, or_left, or_right, cond-true, cond-false, cond_both, cases_eq, cases_Bool, or_cases, both_ways, lt-ltb, ltb-true}
use Rattle.flow.specs.Bits.{bit}
use Rattle.flow.specs.Flow.{some}
use Rattle.flow.proofs.Bits.{alike, fails, same_low}
use Rattle.net.specs.Net.{same, every, position}
use Rattle.net.specs.Seating.{between}

-- a test of every number from a on, below a + n
every_at : (t : ℕ → Bool) (n a : ℕ) → every t (range_with_len a n) ≡ true → (k : ℕ) → a ≤ k → k < a + n → t k ≡ true
every_at t zero a e k l h = absurd (omega arith)
every_at t (suc n) a e k l h =
    let p = and_parts (t a) (every t (range_with_len (a + 1) n)) e in
    ⊎_elim (λ q. ap t q ∙ p.0) (λ q. every_at t n (a + 1) p.1 k (omega arith) (omega arith)) (cases_eq k a)

at_every : (t : ℕ → Bool) (n a : ℕ) → ((k : ℕ) → k < a + n → t k ≡ true) → every t (range_with_len a n) ≡ true
at_every t zero a h = refl
at_every t (suc n) a h = and_from (t a) (every t (range_with_len (a + 1) n)) (h a (omega arith)) (at_every t n (a + 1) (λ k l. h k (omega arith)))

same_is : (x y : Bool) → same x y ≡ true → x ≡ y
same_is true y e = sym e
same_is false true e = e
same_is false false e = refl

is_same : (x y : Bool) → x ≡ y → same x y ≡ true
is_same true y e = sym e
is_same false true e = e
is_same false false e = refl

-- whether a place has exactly these feeders and fed steps, by its two sets
module _ (g from to : ℕ) where
  pub is_between : (low high : ℕ) → ((s : ℕ) → s < 32 → bit low s ≡ bit g s) → ((s : ℕ) → bit high s ≡ bit g (32 + s)) → low ≡ from → high ≡ to → between (bit from) (bit to) g ≡ true
  unfolding between
  is_between low high lows highs e f =
      at_every _ 32 0 (λ k l. and_from _ _ (is_same (bit g k) (bit from k) (sym (lows k l) ∙ ap (λ n. bit n k) e)) (is_same (bit g (32 + k)) (bit to k) (sym (highs k) ∙ ap (λ n. bit n k) f)))

  between_at : between (bit from) (bit to) g ≡ true → (k : ℕ) → k < 32 → (bit g k ≡ bit from k) × (bit g (32 + k) ≡ bit to k)
  unfolding between
  between_at t k l =
      let p = and_parts _ _ (every_at (λ s. same (bit g s) (bit from s) && same (bit g (32 + s)) (bit to s)) 32 0 t k (omega arith) l) in
      (same_is (bit g k) (bit from k) p.0, same_is (bit g (32 + k)) (bit to k) p.1)

  pub low_other : (low : ℕ) → low < 2 ^ 32 → from < 2 ^ 32 → ((s : ℕ) → s < 32 → bit low s ≡ bit g s) → (low ≡ from → ⊥) → eqb low from ≡ between (bit from) (bit to) g
  low_other low fits small lows n = ne_eqb low from n ∙ sym (fails _ (λ t. n (same_low 32 low from fits small (λ k l. lows k l ∙ (between_at t k l).0))))

  pub high_decides : (low high : ℕ) → high < 2 ^ 32 → to < 2 ^ 32 → ((s : ℕ) → s < 32 → bit low s ≡ bit g s) → ((s : ℕ) → bit high s ≡ bit g (32 + s)) → low ≡ from → eqb high to ≡ between (bit from) (bit to) g
  high_decides low high fits small lows highs e = alike _ _
      (λ t. is_between low high lows highs e (eqb-true high to t))
      (λ t. eq-eqb high to (same_low 32 high to fits small (λ k l. highs k ∙ (between_at t k l).1)))

-- the first place that passes a test
module _ (test : ℕ → Bool) where
  pub position_below : (groups : List ℕ) → some test groups ≡ true → position test groups < length groups
  position_below [] h = let z : ◌≡◌ {A = ℕ} 0 1 = cc in absurd (omega arith)
  position_below (x ∷ xs) h = cond_both (test x) 0 (suc (position test xs)) (λ n. n < suc (length xs)) (λ _. omega arith)
      (λ f. ⊎_elim (λ t. absurd (both_ways (test x) f t)) (λ t. let l = position_below xs t in omega arith) (or_cases (test x) (some test xs) h))

  below_some : (groups : List ℕ) → position test groups < length groups → some test groups ≡ true
  below_some [] l = absurd (omega arith)
  below_some (x ∷ xs) l = ⊎_elim
      (λ t. or_left (test x) (some test xs) t)
      (λ f. let e = cond-false (test x) 0 (suc (position test xs)) f in or_right (test x) (some test xs) (below_some xs (omega (arith, e))))
      (cases_Bool (test x))

  first_is : (groups : List ℕ) → first test groups ≡ cond (some test groups) (Some (position test groups)) None
  first_is groups =
      let e = is_position_or_len (position test) test refl (λ x xs. ap (λ n. cond (test x) 0 n) (omega arith)) groups in
      let p : ltb (position test groups) (length groups) ≡ some test groups =
      alike _ _ (λ t. below_some groups (ltb-true (position test groups) (length groups) t)) (λ t. lt-ltb (position test groups) (length groups) (position_below groups t)) in
      sym (ap (λ n. cond (ltb n (length groups)) (Some n) None) e) ∙ ap (λ b. cond b (Some (position test groups)) None) p

  pub some_first : (groups : List ℕ) (k : ℕ) → Some k ≡ first test groups → (some test groups ≡ true) × (k ≡ position test groups)
  some_first groups k e = ⊎_elim
      (λ t. let q : Some k ≡ Some (position test groups) = e ∙ first_is groups ∙ cond-true (some test groups) (Some (position test groups)) None t in (t, cc))
      (λ f. let q : Some k ≡ None = e ∙ first_is groups ∙ cond-false (some test groups) (Some (position test groups)) None f in let z : ◌≡◌ {A = ℕ} 0 1 = cc in absurd (omega arith))
      (cases_Bool (some test groups))

  pub none_first : (groups : List ℕ) → None ≡ first test groups → some test groups ≡ false
  none_first groups e = ⊎_elim
      (λ t. let q : None ≡ Some (position test groups) = e ∙ first_is groups ∙ cond-true (some test groups) (Some (position test groups)) None t in let z : ◌≡◌ {A = ℕ} 0 1 = cc in absurd (omega arith))
      (λ f. f)
      (cases_Bool (some test groups))
