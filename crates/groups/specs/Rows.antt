-- Pairs as rows of bits
use Rattle.std.specs.Prelude.{◌≡◌, ℕ, ◌/◌, ◌%◌, ◌^◌, ◌<◌, Bool, true, List, ◌==◌, bit_and, bit_or, slice_index}
use Rattle.groups.specs.Groups.{In}

-- the pairs that rows of bits hold: the bit q of row p
unfoldable pub held : List ℕ → ℕ → ℕ → Bool
held rows p q = slice_index rows p / 2 ^ q % 2 == 1

-- pairs of points below 64, either way round
pub record Lawful (pairs : ℕ → ℕ → Bool) : Type 0 where
  pub even : (p q : ℕ) → pairs p q ≡ pairs q p
  pub below : (p q : ℕ) → pairs p q ≡ true → p < 64

-- g has the points that p is paired with
pub record Row (pairs : ℕ → ℕ → Bool) (p g : ℕ) : Type 0 where
  pub to : (q : ℕ) → pairs p q ≡ true → In g q
  pub from : (q : ℕ) → In g q → pairs p q ≡ true

-- p is paired with every point of g
abbrev pub JoinsAll : (ℕ → ℕ → Bool) → ℕ → ℕ → Type 0
JoinsAll pairs p g = (q : ℕ) → In g q → pairs p q ≡ true

-- w and the points of g that it is paired with
abbrev pub turned : List ℕ → ℕ → ℕ → ℕ
turned rows g w = bit_or (bit_and g (slice_index rows w)) (2 ^ w)
