-- The order of lists of numbers, number by number and a shorter list ahead of its extensions, is an order of whatever is
-- told by such lists; and how a comparison goes along two lists. Assumes nothing.
use Rattle.std.specs.Prelude.{◌≡◌, ℕ, ◌+◌, ◌<◌, ◌≤◌, List, [], ◌∷◌, length, drop, slice_index}
use Rattle.std.proofs.Common.{sym, ap, ◌∙◌}
use Rattle.std.proofs.lemmas.List.{drop_more, drop_all}
use Rattle.std.specs.Cmp.Lexicographic.{slice_cmp, on_texts}
use Rattle.std.specs.FinMap.{nat_cmp-IsAntisymmetric, slice_cmp-IsAntisymmetric}
use Rattle.std.specs.Ordering.{nat_cmp, on, ordering_then}
use Rattle.std.specs.declared.cmp.Ordering.TheVariants.{Less, Equal, Greater}
use Rattle.steps.specs.Orders.{OrderLaws, order_laws}

-- an order by what is told of a thing, where no two things are told alike
module _ {S : Type 0} (told : S → List ℕ) (apart : (x y : S) → told x ≡ told y → x ≡ y) where
  pub lexical_laws : OrderLaws (on told (slice_cmp nat_cmp))
  lexical_laws = order_laws (on_texts told) (λ x y e. apart x y (slice_cmp-IsAntisymmetric nat_cmp-IsAntisymmetric (told x) (told y) e))

-- two lists that are the same up to place i
module _ (a b : List ℕ) (i : ℕ) (e : slice_cmp nat_cmp (drop i a) (drop i b) ≡ slice_cmp nat_cmp a b) where
  pub lexical_step : i < length a → i < length b → slice_cmp nat_cmp a b ≡ ordering_then (nat_cmp (slice_index a i) (slice_index b i)) (slice_cmp nat_cmp (drop (i + 1) a) (drop (i + 1) b))
  lexical_step h k = sym e ∙ ap (λ t. slice_cmp nat_cmp t (drop i b)) (drop_more a i 0 h) ∙ ap (slice_cmp nat_cmp (slice_index a i ∷ drop (i + 1) a)) (drop_more b i 0 k)

  pub lexical_first_ends : length a ≤ i → i < length b → slice_cmp nat_cmp a b ≡ Less
  lexical_first_ends h k = sym e ∙ ap (λ t. slice_cmp nat_cmp t (drop i b)) (drop_all i a h) ∙ ap (slice_cmp nat_cmp []) (drop_more b i 0 k)

  pub lexical_second_ends : i < length a → length b ≤ i → slice_cmp nat_cmp a b ≡ Greater
  lexical_second_ends h k = sym e ∙ ap (λ t. slice_cmp nat_cmp t (drop i b)) (drop_more a i 0 h) ∙ ap (slice_cmp nat_cmp (slice_index a i ∷ drop (i + 1) a)) (drop_all i b k)

  pub lexical_both_end : length a ≤ i → length b ≤ i → slice_cmp nat_cmp a b ≡ Equal
  lexical_both_end h k = sym e ∙ ap (λ t. slice_cmp nat_cmp t (drop i b)) (drop_all i a h) ∙ ap (slice_cmp nat_cmp []) (drop_all i b k)
