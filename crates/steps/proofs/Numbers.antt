-- The number that is told of a step is the one by the order. Assumes nothing.
use Rattle.std.proofs.Common.{◌≡◌, ℕ, zero, suc, List, [], ◌∷◌, Some, refl, ap, ◌∙◌, arith}
use Rattle.std.specs.declared.cmp.Ordering.{Ordering}
use Rattle.std.specs.declared.cmp.Ordering.TheVariants.{Less, Equal, Greater}
use Rattle.steps.specs.Orders.{OrderLaws}
use Rattle.steps.specs.Rosters.{Numbered, number_of, unless_same}

module _ {S : Type 0} (order : S → S → Ordering) (laws : OrderLaws order) where
  other : (o : Ordering) (n : ℕ) → (o ≡ Equal → ⊥) → unless_same o n ≡ suc n
  other Less n h = refl
  other Equal n h = absurd (h refl)
  other Greater n h = refl

  pub numbered_is : (steps : List S) (x : S) (i : ℕ) → Numbered steps x (Some i) → number_of order steps x ≡ i
  numbered_is [] x i (l, here, before) = absurd (omega arith)
  numbered_is (y ∷ ys) x zero (l, here, before) = ap (λ z. unless_same (order z x) (number_of order ys x)) here ∙ ap (λ o. unless_same o (number_of order ys x)) (laws.equal_is_same x)
  numbered_is (y ∷ ys) x (suc i) (l, here, before) =
      other (order y x) (number_of order ys x) (λ s. before 0 (omega arith) (laws.same_is_equal y x s))
      ∙ ap suc (numbered_is ys x i (omega arith, here, λ k h e. before (suc k) (omega arith) e))
