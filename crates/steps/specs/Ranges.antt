-- Which units, codes and names there are
use Rattle.std.specs.Prelude.{◌≡◌, ℕ, ◌≤◌, Bool, true, ◌&&◌, ◌||◌, List, length, ◌==◌, nat_le}
use Rattle.std.specs.List.{list_all}

abbrev pub IsUnit : ℕ → Type 0
IsUnit n = n ≤ 63

abbrev pub IsCode : ℕ → Type 0
IsCode n = n ≤ 16777215

-- a byte of a name: A to Z, 0 to 9 or the underscore
abbrev pub name_byte : ℕ → Bool
name_byte b = (nat_le 65 b && nat_le b 90) || ((nat_le 48 b && nat_le b 57) || b == 95)

abbrev pub name_bytes : List ℕ → Bool
name_bytes = list_all name_byte

-- the text of a name: 1 to 8 name bytes
abbrev pub IsName : List ℕ → Type 0
IsName bs = (1 ≤ length bs) × (length bs ≤ 8) × (name_bytes bs ≡ true)
