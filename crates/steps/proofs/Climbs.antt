-- Steps that are each before the next are each before every later one. Assumes nothing.
use Rattle.std.proofs.Common.{◌≡◌, ℕ, zero, suc, ◌+◌, ◌-◌, ◌<◌, Bool, true, false, true≢false, MatchBool, List, [], ◌∷◌, length, get_or, refl, sym, ap, ◌∙◌, add-zero, arith}
use Rattle.std.specs.List.{IsAllAdjacentAnswer}
use Rattle.std.specs.Ordering.{is_lt}
use Rattle.std.specs.declared.cmp.Ordering.{Ordering}
use Rattle.std.specs.declared.cmp.Ordering.TheVariants.{Less, Equal, Greater}
use Rattle.steps.specs.Orders.{OrderLaws}
use Rattle.steps.specs.Rosters.{Ascending}

-- each of the first n steps is before the next of them
abbrev pub Climbs : {S : Type 0} → (S → S → Ordering) → List S → ℕ → Type 0
Climbs {S} order steps n = (k : ℕ) (d : S) → k + 1 < n → order (get_or steps k d) (get_or steps (k + 1) d) ≡ Less

less : (o : Ordering) → is_lt o ≡ true → o ≡ Less
less Less e = refl
less Equal e = absurd (true≢false (sym e))
less Greater e = absurd (true≢false (sym e))

-- a list with a place has an element
no_element : {S : Type 0} (steps : List S) → (S → ⊥) → (k : ℕ) → k + 1 < length steps → ⊥
no_element [] none k l = omega arith
no_element (x ∷ xs) none k l = none x

module _ {S : Type 0} (order : S → S → Ordering) (laws : OrderLaws order) (steps : List S) where
  -- by the distance between the two
  far : Climbs order steps (length steps) → (m i : ℕ) (d : S) → i + m + 1 < length steps → order (get_or steps i d) (get_or steps (i + m + 1) d) ≡ Less
  far h zero i d l = ap (λ k. order (get_or steps i d) (get_or steps (k + 1) d)) (add-zero i) ∙ h i d (omega arith)
  far h (suc m) i d l =
      ap (λ k. order (get_or steps i d) (get_or steps (k + 1) d)) (omega arith)
      ∙ laws.transitive (get_or steps i d) (get_or steps (i + m + 1) d) _ (far h m i d (omega arith)) (h (i + m + 1) d (omega arith))

  pub climbs_ascend : Climbs order steps (length steps) → Ascending order steps
  climbs_ascend h i j d lt l =
      let e : i + (j - i - 1) + 1 ≡ j = omega arith in
      ap (λ k. order (get_or steps i d) (get_or steps k d)) (sym e) ∙ far h (j - i - 1) i d (omega arith)

  -- what `is_sorted_by` answers, where its test is whether the one is before the other
  pub ascends_told : (r : Bool) → IsAllAdjacentAnswer (λ x y b. b ≡ is_lt (order x y)) steps r → MatchBool r (Ascending order steps) (Ascending order steps → ⊥)
  ascends_told true all = climbs_ascend (λ k d h. less (order (get_or steps k d) (get_or steps (k + 1) d)) (sym (all k d h)))
  ascends_told false (k, l, not) = λ up. no_element steps (λ d. true≢false (sym (ap is_lt (up k (k + 1) d (omega arith) l)) ∙ sym (not d))) k l
