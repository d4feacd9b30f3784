-- One event more of a job as step numbers. Assumes nothing.
use Rattle.std.proofs.Common.{◌≡◌, ℕ, ◌+◌, ◌<◌, List, [], ◌∷◌, ◌++◌, length, get_or, take, Some, sym, ap, ◌∙◌, subst, below_more, arith}
use Rattle.std.proofs.lemmas.List.{map_more, get_or_read, get_or_push, get_or_append_left, length_push}
use Rattle.std.specs.declared.cmp.Ordering.{Ordering}
use Rattle.steps.specs.Orders.{OrderLaws}
use Rattle.steps.specs.Rosters.{Numbered, Listed, ListedBelow, number_of, numbers}
use Rattle.steps.proofs.Numbers.{numbered_is}
use Rattle.book.specs.Jobs.{OfSteps}

module _ {S : Type 0} (order : S → S → Ordering) (laws : OrderLaws order) (roster job : List S) (out : List ℕ) (k n : ℕ) (x : S)
    (inside : k < length job) (event : x ≡ get_or job k x) (found : Numbered roster x (Some n)) where
  pub numbers_more : out ≡ numbers order roster (take k job) → out ++ n ∷ [] ≡ numbers order roster (take (k + 1) job)
  numbers_more e =
      ap (λ t. t ++ n ∷ []) e
      ∙ ap (λ m. numbers order roster (take k job) ++ m ∷ []) (sym (numbered_is order laws roster x n found) ∙ ap (number_of order roster) event)
      ∙ sym (map_more (number_of order roster) job k x inside)

  pub listed_more : ListedBelow roster job k → ListedBelow roster job (k + 1)
  listed_more below = below_more _ k below (λ d. subst (Listed roster) (get_or_read job k x inside event d) (n, found.0, found.1))

  pub steps_more : OfSteps (length roster) out → OfSteps (length roster) (out ++ n ∷ [])
  steps_more below = λ i h.
      below_more (λ i. get_or (out ++ n ∷ []) i 0 < length roster) (length out) (λ i h. subst (λ m. m < length roster) (sym (get_or_append_left out (n ∷ []) 0 i h)) (below i h)) (subst (λ m. m < length roster) (sym (get_or_push out n 0 (length out) (λ j. length out))) found.0) i (omega (arith, length_push out n))
