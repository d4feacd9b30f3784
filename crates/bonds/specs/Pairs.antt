-- The two bonds of jobs
use Rattle.std.specs.Prelude.{ℕ, ◌-◌, ◌^◌, Bool, false, cond, Option, None, Some, ◌&&◌, ◌==◌, nat_le, nat_lt}
use Rattle.flow.specs.Bits.{row}
use Rattle.flow.specs.Rows.{stands_by}
use Rattle.flow.specs.Flow.{Jobs, stands, unrelated_of, leads_of, beside_of, unrelated, leads, beside}
use Rattle.flow.specs.declared.relations.Relations.{Relations}

-- The place bond has 64 points: s is the step s as feeder, and 32 + s is the step s as fed. Two feeders, or two fed, are paired if they are unrelated, equal ones too; a feeder and a fed step if the one leads to the other.
abbrev pub place_points : (unrelated leads : ℕ → ℕ → Bool) → ℕ → ℕ → Bool
place_points unrelated leads p q =
    (nat_lt p 64 && nat_lt q 64)
    && cond (nat_lt p 32)
    (cond (nat_lt q 32) (unrelated p q) (leads p (q - 32)))
    (cond (nat_lt q 32) (leads q (p - 32)) (unrelated (p - 32) (q - 32)))

unfoldable pub place_pairs : Jobs → ℕ → ℕ → Bool
place_pairs js = place_points (unrelated js) (leads js)

-- its marks: all feeders, and all fed steps
abbrev pub feeder_mark : ℕ
feeder_mark = 2 ^ 32 - 1

abbrev pub fed_mark : ℕ
fed_mark = 2 ^ 64 - 2 ^ 32

-- The side-by-side bond has 32 points, the steps. Different ones are paired if they are side by side, and a step with itself if it stands in a reduced job.
abbrev pub side_points : (stands : ℕ → Bool) (beside : ℕ → ℕ → Bool) → ℕ → ℕ → Bool
side_points stands beside p q = (nat_lt p 32 && nat_lt q 32) && cond (p == q) (stands p) (beside p q)

unfoldable pub side_pairs : Jobs → ℕ → ℕ → Bool
side_pairs js = side_points (stands js) (beside js)

-- both its marks: all points
abbrev pub side_mark : ℕ
side_mark = 2 ^ 32 - 1

-- whether a book is open that has so many steps and words
abbrev pub opens : ℕ → ℕ → Bool
opens steps len = (nat_le 1 steps && nat_le steps 32) && (nat_le 2 len && nat_le len 16384)

-- the pairs of the bond of a book: none if it is void
abbrev pub of_book : ℕ → ℕ → (ℕ → ℕ → Bool) → ℕ → ℕ → Bool
of_book steps len pairs p q = opens steps len && pairs p q

-- the pairs of the two bonds by the rows of relations
abbrev pub places_by : Relations → ℕ → ℕ → Bool
places_by r = place_points (unrelated_of (row r.precedes) (row r.returns)) (leads_of (row r.precedes) (row r.returns))

abbrev pub sides_by : Relations → ℕ → ℕ → Bool
sides_by r = side_points (stands_by r) (beside_of (row r.precedes) (row r.returns))

-- the pairs of a bond that may have no rows: none then
abbrev pub pairs_if : (Relations → ℕ → ℕ → Bool) → Option Relations → ℕ → ℕ → Bool
pairs_if by None p q = false
pairs_if by (Some r) p q = by r p q
