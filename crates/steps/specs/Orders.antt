-- What every order of steps owes
use Rattle.std.specs.Prelude.{◌≡◌}
use Rattle.std.specs.Cmp.{IsTotalOrder, tied_itself}
use Rattle.std.specs.FinMap.{IsAntisymmetric}
use Rattle.std.specs.declared.cmp.Ordering.{Ordering}
use Rattle.std.specs.declared.cmp.Ordering.TheVariants.{Less, Equal}
use Rattle.std.specs.Ordering.{ordering_reverse}

-- the law of an order of steps: "same" means equal, swapping the two swaps before and after, "before" is transitive
pub record OrderLaws {S : Type 0} (order : S → S → Ordering) : Type 0 where
  pub same_is_equal : (x y : S) → order x y ≡ Equal → x ≡ y
  pub equal_is_same : (x : S) → order x x ≡ Equal
  pub swaps : (x y : S) → order y x ≡ ordering_reverse (order x y)
  pub transitive : (x y z : S) → order x y ≡ Less → order y z ≡ Less → order x z ≡ Less

-- a total order that tells only equal steps the same
pub order_laws : {S : Type 0} {order : S → S → Ordering} → IsTotalOrder order → IsAntisymmetric order → OrderLaws order
order_laws total same = record {
  same_is_equal = same;
  equal_is_same = tied_itself total;
  swaps = λ x y. total.antisymm y x;
  transitive = total.trans;
}
