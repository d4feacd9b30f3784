-- Points, groups and marks. A set of points is a number, in which the point p weighs 2 ^ p.
use Rattle.std.specs.Prelude.{◌≡◌, ℕ, ◌/◌, ◌%◌, ◌^◌, Bool, true}

-- the point p is in the set g
unfoldable pub In : ℕ → ℕ → Type 0
In g p = g / 2 ^ p % 2 ≡ 1

-- every point of g is paired with itself and with every other
abbrev pub Paired : (ℕ → ℕ → Bool) → ℕ → Type 0
Paired pairs g = (p q : ℕ) → In g p → In g q → pairs p q ≡ true

-- x is paired with itself and with every point of g
abbrev pub Fits : (ℕ → ℕ → Bool) → ℕ → ℕ → Type 0
Fits pairs g x = (pairs x x ≡ true) × ((p : ℕ) → In g p → pairs p x ≡ true)

-- a has no point that b lacks
abbrev pub Inside : ℕ → ℕ → Type 0
Inside a b = (p : ℕ) → In a p → In b p

-- the sets a and b share a point
abbrev pub Touches : ℕ → ℕ → Type 0
Touches a b = (p : ℕ) × In a p × In b p

-- a largest group: not empty, paired throughout, and every point that could be added is in it
pub record Largest (pairs : ℕ → ℕ → Bool) (g : ℕ) : Type 0 where
  pub some : (p : ℕ) × In g p
  pub paired : Paired pairs g
  pub full : (x : ℕ) → Fits pairs g x → In g x

-- a largest group that touches both marks
pub record Listed (pairs : ℕ → ℕ → Bool) (first second : ℕ) (g : ℕ) : Type 0 where
  pub largest : Largest pairs g
  pub one : Touches g first
  pub two : Touches g second
