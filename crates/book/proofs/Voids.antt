-- A book is open or void, not both, and void by one row
use Rattle.std.proofs.Common.{◌≡◌, ℕ, ◌⊎◌, refl, inl, inr, ⊎_elim, arith}
use Rattle.std.proofs.lemmas.Bool.{cases_lt}
use Rattle.book.specs.declared.faults.Void.{Void}
use Rattle.book.specs.declared.faults.Void.TheVariants.{Steps, Memory}
use Rattle.book.specs.Enter.{VoidBy}
use Rattle.book.specs.Jobs.{Opens}

pub decide : (s l : ℕ) → Opens s l ⊎ (Opens s l → ⊥)
decide s l =
    ⊎_elim (λ a. inr (λ o. omega (arith, o.0)))
    (λ a. ⊎_elim (λ b. inr (λ o. omega (arith, o.1)))
    (λ b. ⊎_elim (λ c. inr (λ o. omega (arith, o.2)))
    (λ c. ⊎_elim (λ d. inr (λ o. omega (arith, o.3))) (λ d. inl (omega arith, omega arith, omega arith, omega arith)) (cases_lt 16384 l)) (cases_lt l 2)) (cases_lt 32 s)) (cases_lt s 1)

module _ (steps len : ℕ) where
  pub void_open : (v : Void) → VoidBy steps len v → Opens steps len → ⊥
  void_open Steps h o = h (o.0, o.1)
  void_open Memory h o = h.2 (o.2, o.3)

  pub void_same : (v w : Void) → VoidBy steps len v → VoidBy steps len w → v ≡ w
  void_same Steps Steps h k = refl
  void_same Steps Memory h k = absurd (h (k.0, k.1))
  void_same Memory Steps h k = absurd (k (h.0, h.1))
  void_same Memory Memory h k = refl
