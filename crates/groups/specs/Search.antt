-- What the steps of a search add
use Rattle.std.specs.Prelude.{◌≡◌, ℕ, ◌^◌, ◌<◌, true, List, ◌++◌, bit_or, slice_index, Any}
use Rattle.groups.specs.declared.searching.Search.{Search}
use Rattle.groups.specs.Groups.{Inside, Touches}
use Rattle.groups.specs.Rows.{held, turned}

-- one of the groups found holds all of s
abbrev pub Covers : Search → ℕ → Type 0
Covers search s = Any (Inside s) search.found.items

-- the set s is covered, if it touches both marks
abbrev pub IsCovered : Search → ℕ → Type 0
IsCovered search s = Touches s search.marks.first → Touches s search.marks.second → Covers search s

-- a later state of the search: the groups of `old` stand in `new` where they stood
pub record Kept (old new : Search) : Type 0 where
  pub rows : new.rows ≡ old.rows
  pub marks : new.marks ≡ old.marks
  pub found : (more : List ℕ) × (new.found.items ≡ old.found.items ++ more)

-- what covering the set s leaves: the groups that were there, and one that holds s if s touches both marks
pub record Covered (old new : Search) (s : ℕ) : Type 0 where
  pub kept : Kept old new
  pub covers : IsCovered new s

-- the points u and v
abbrev pub two : ℕ → ℕ → ℕ
two u v = bit_or (2 ^ u) (2 ^ v)

-- u with any point below m that it is paired with is covered, where the two touch both marks
abbrev pub SeededAt : Search → ℕ → ℕ → Type 0
SeededAt search u m = (v : ℕ) → v < m → held search.rows.bits u u ≡ true → held search.rows.bits v v ≡ true → held search.rows.bits u v ≡ true
    → IsCovered search (two u v)

-- the same, for each u below m and any other point
abbrev pub Seeded : Search → ℕ → Type 0
Seeded search m = (u : ℕ) → u < m → SeededAt search u 64

-- what g turns to about any point below m is covered, where it touches both marks
abbrev pub ClosedAt : Search → ℕ → ℕ → Type 0
ClosedAt search g m = (w : ℕ) → w < m → held search.rows.bits w w ≡ true → IsCovered search (turned search.rows.bits g w)

-- the same, for each of the first m groups and any point
abbrev pub Closed : Search → ℕ → Type 0
Closed search m = (i : ℕ) → i < m → ClosedAt search (slice_index search.found.items i) 64
