-- What a search of rows for two marks comes to
use Rattle.std.specs.Prelude.{◌≡◌, ℕ, ◌≤◌, List, length, Result, MatchResult, All, Contains}
use Rattle.groups.specs.declared.faults.ListFault.{ListFault}
use Rattle.groups.specs.declared.faults.ListFault.TheVariants.{TooMany}
use Rattle.groups.specs.declared.marks.Marks.{Marks}
use Rattle.groups.specs.declared.rows.Rows.{Rows}
use Rattle.groups.specs.Groups.{Listed}
use Rattle.groups.specs.Rows.{held}
use Rattle.groups.specs.Sorting.{Apart}

-- g is a largest group of the rows that touches both marks
abbrev pub Sought : Rows → Marks → ℕ → Type 0
Sought rows marks g = Listed (held rows.bits) marks.first marks.second g

-- what is found are listed groups, no two equal, at most 256
pub record Holds (rows : Rows) (marks : Marks) (found : List ℕ) : Type 0 where
  pub few : length found ≤ 256
  pub sound : All (Sought rows marks) found
  pub apart : Apart found

-- what is found are all the listed groups, no two equal
pub record Whole (rows : Rows) (marks : Marks) (found : List ℕ) : Type 0 where
  pub few : length found ≤ 256
  pub sound : All (Sought rows marks) found
  pub apart : Apart found
  pub whole : (g : ℕ) → Sought rows marks g → Contains found g

-- 257 different listed groups
abbrev pub Many : Rows → Marks → Type 0
Many rows marks = (list : List ℕ) × (length list ≡ 257) × All (Sought rows marks) list × Apart list

-- P of the value, or too many groups
abbrev pub OrMany : {A : Type 0} → Rows → Marks → Result A ListFault → (A → Type 0) → Type 0
OrMany rows marks r P = MatchResult r P (λ e. (e ≡ TooMany) × Many rows marks)
