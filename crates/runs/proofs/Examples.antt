-- The worked examples, checked by computing
use Rattle.std.proofs.Common.{◌≡◌, ℕ, ◌+◌, ◌^◌, ◌<◌, Bool, true, not, ◌&&◌, ◌||◌, ltb, leb, List, [], ◌∷◌, length, filter, refl, ap, inl, inr, arith}
use lib.Count.{ones_in}
use Rattle.std.specs.List.{range_with_len}
use Rattle.std.proofs.lemmas.Bool.{both_ways, and_parts, or_cases, ltb-true, leb-true, not-true}
use Rattle.groups.specs.Listings.{Listing}
use Rattle.flow.specs.Bits.{bit}
use Rattle.flow.specs.Flow.{Jobs, some, looping}
use Rattle.bonds.specs.Pairs.{place_pairs, side_pairs, feeder_mark, fed_mark, side_mark}
use Rattle.net.specs.Net.{Places, Draws, net, words, sits, steps, every}
use Rattle.net.specs.Draw.{LowestUnseated}
use Rattle.runs.specs.Examples.{Examples, listed, diamond, choice, round, half_turn, seated, homeless, apart, joined}
use Rattle.runs.proofs.Checking.{listing?, listing_checked, every_below}

-- the points of these groups
abbrev points : List ℕ → List ℕ
points gs = filter (λ x. some (λ g. bit g x) gs) (range_with_len 0 64)

places_low : (js : Jobs) (p q : ℕ) → place_pairs js p q ≡ true → p < 64
unfolding place_pairs
places_low js p q e = ltb-true p 64 (and_parts (ltb p 64) (ltb q 64) (and_parts (ltb p 64 && ltb q 64) _ e).0).0

sides_low : (js : Jobs) (p q : ℕ) → side_pairs js p q ≡ true → p < 64
unfolding side_pairs
sides_low js p q e = let l = ltb-true p 32 (and_parts (ltb p 32) (ltb q 32) (and_parts (ltb p 32 && ltb q 32) _ e).0).0 in omega arith

abbrev places? : Jobs → List ℕ → Bool
places? js gs = listing? (place_pairs js) feeder_mark fed_mark (points gs) gs

places_checked : (js : Jobs) (gs : List ℕ) → places? js gs ≡ true → Places js gs
places_checked js gs e = listing_checked (place_pairs js) feeder_mark fed_mark (places_low js) (points gs) gs e

abbrev sides? : Jobs → List ℕ → Bool
sides? js gs = listing? (side_pairs js) side_mark side_mark (points gs) gs

sides_checked : (js : Jobs) (gs : List ℕ) → sides? js gs ≡ true → Listing (side_pairs js) side_mark side_mark gs
sides_checked js gs e = listing_checked (side_pairs js) side_mark side_mark (sides_low js) (points gs) gs e

abbrev seated? : Jobs → List ℕ → Bool
seated? js gs = every (λ t. not (looping js t) || some (sits js t) gs) steps

-- a draw is checked by computing
pub draws_checked : (js : Jobs) (gs ws : List ℕ) → places? js gs ≡ true → leb (length gs) 256 ≡ true → seated? js gs ≡ true → ws ≡ words (net js gs) → Draws js ws
draws_checked js gs ws p f s w = record {
  groups = gs;
  listed = places_checked js gs p;
  few = leb-true (length gs) 256 f;
  seated = λ t l o.
      elim (or_cases (not (looping js t)) (some (sits js t) gs) (every_below 32 (λ t. not (looping js t) || some (sits js t) gs) s t l))
      [ inl k ↦ absurd (both_ways (looping js t) (not-true _ k) o) | inr k ↦ k ];
  written = w;
}

-- the place from a to b
abbrev pub two : ℕ → ℕ → ℕ
two a b = 2 ^ a + 2 ^ (32 + b)

lowest_homeless : LowestUnseated homeless [] 1
lowest_homeless = record {
  step = omega arith;
  loops = refl;
  unseated = refl;
  lowest = λ s l o. let z : s ≡ 0 = omega arith in absurd (both_ways (looping homeless s) (ap (looping homeless) z) o);
}

pub examples : Examples
unfolding place_pairs side_pairs bit ones_in
examples = record {
  of_listed = draws_checked listed (two 1 0 ∷ []) _ refl refl refl refl;
  of_none = draws_checked [] [] _ refl refl refl refl;
  of_one = draws_checked ((0 ∷ []) ∷ []) [] _ refl refl refl refl;
  of_diamond = draws_checked diamond (two 0 1 ∷ two 0 2 ∷ two 1 3 ∷ two 2 3 ∷ []) _ refl refl refl refl;
  of_choice = draws_checked choice ((2 ^ 0 + 2 ^ 33 + 2 ^ 34) ∷ (2 ^ 1 + 2 ^ 2 + 2 ^ 35) ∷ []) _ refl refl refl refl;
  of_round = draws_checked round (two 2 3 ∷ (2 ^ 0 + 2 ^ 3 + 2 ^ 33 + 2 ^ 34) ∷ []) _ refl refl refl refl;
  of_half_turn = draws_checked half_turn (two 2 1 ∷ two 0 2 ∷ []) _ refl refl refl refl;
  of_seated = draws_checked seated (two 2 1 ∷ []) _ refl refl refl refl;
  of_homeless = λ old. (omega arith, ([], places_checked homeless [] refl, omega arith, lowest_homeless), refl);
  of_apart = draws_checked apart (two 0 1 ∷ two 2 3 ∷ []) _ refl refl refl refl;
  of_joined = draws_checked joined (two 0 1 ∷ two 2 3 ∷ []) _ refl refl refl refl;
  sides_apart = sides_checked apart (1 ∷ 2 ∷ 4 ∷ 8 ∷ []) refl;
  sides_joined = sides_checked joined (2 ∷ 8 ∷ 5 ∷ []) refl;
}
