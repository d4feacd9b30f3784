-- Sets of steps, or of points, as numbers
use Rattle.std.specs.Prelude.{◌≡◌, ℕ, ◌≤◌, false, ◌/◌, ◌%◌, ◌^◌, ◌-◌, Bool, List, filter, ◌==◌, length, slice_index}
use Rattle.std.specs.List.{range_with_len}

-- p is in the set g, in which it weighs 2 ^ p
unfoldable pub bit : ℕ → ℕ → Bool
bit g p = g / 2 ^ p % 2 == 1

-- b is in the set that is row a
abbrev pub row : List ℕ → ℕ → ℕ → Bool
row rows a b = bit (slice_index rows a) b

-- there is a row for each of the steps 0 to 31, and only they are in it
abbrev pub OfSteps : List ℕ → Type 0
OfSteps rows = (length rows ≡ 32) × ((a b : ℕ) → 32 ≤ b → row rows a b ≡ false)

-- the steps of the set g from a on, ascending
unfoldable pub members_from : ℕ → ℕ → List ℕ
members_from g a = filter (bit g) (range_with_len a (32 - a))
