-- What the two bonds of a book owe: their pairs are alike either way round, a point that is in a pair is one of theirs, and the rows of jobs tell the pairs of the jobs
use Rattle.std.specs.Prelude.{◌≡◌, ℕ, ◌<◌, ◌≤◌, Bool, true, Option, None, Some, refl}
use Rattle.std.proofs.Common.{rules, lit≤}
use Rattle.flow.specs.Flow.{Jobs, leads_of, unrelated_of, beside_of}
use Rattle.flow.specs.Rows.{Shows}
use Rattle.flow.specs.declared.relations.Relations.{Relations}
use Rattle.flow.proofs.Standing.{standing}
use Rattle.bonds.specs.Pairs.{place_pairs, place_points, places_by, side_pairs, side_points, sides_by, pairs_if}

pub places_few : 64 ≤ 64
places_few = lit≤ tt

pub places_symmetric : (r : Relations) (p q : ℕ) → places_by r p q ≡ places_by r q p
places_symmetric r p q = search rules

pub places_lack : (r : Relations) (p q : ℕ) → places_by r p q ≡ true → p < 64
places_lack r p q h = search rules

pub places_shown : (js : Jobs) (r : Relations) → Shows js r → places_by r ≡ place_pairs js
unfolding place_pairs
places_shown js r shows = λ i.
    place_points (unrelated_of (λ a b. shows.precedes_is a b i) (λ a b. shows.returns_is a b i))
    (leads_of (λ a b. shows.precedes_is a b i) (λ a b. shows.returns_is a b i))

pub sides_few : 32 ≤ 64
sides_few = lit≤ tt

pub sides_symmetric : (r : Relations) (p q : ℕ) → sides_by r p q ≡ sides_by r q p
sides_symmetric r p q = search rules

pub sides_lack : (r : Relations) (p q : ℕ) → sides_by r p q ≡ true → p < 32
sides_lack r p q h = search rules

pub sides_shown : (js : Jobs) (r : Relations) → Shows js r → sides_by r ≡ side_pairs js
unfolding side_pairs
sides_shown js r shows = λ i.
    side_points (λ s. standing js r shows s i) (beside_of (λ a b. shows.precedes_is a b i) (λ a b. shows.returns_is a b i))

-- and so where there may be no rows
module _ (by : Relations → ℕ → ℕ → Bool) where
  pub symmetric_if : ((r : Relations) (p q : ℕ) → by r p q ≡ by r q p) → (rows : Option Relations) (p q : ℕ) → pairs_if by rows p q ≡ pairs_if by rows q p
  symmetric_if law None p q = refl
  symmetric_if law (Some r) p q = law r p q

  pub lacks_if : (points : ℕ) → ((r : Relations) (p q : ℕ) → by r p q ≡ true → p < points) → (rows : Option Relations) (p q : ℕ) → pairs_if by rows p q ≡ true → p < points
  lacks_if points law None p q h = cc
  lacks_if points law (Some r) p q h = law r p q h
