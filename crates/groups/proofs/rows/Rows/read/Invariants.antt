use Rattle.std.proofs.Common.{◌≡◌, ℕ, ◌<◌, ◌≤◌, length, get_or}
use Rattle.groups.specs.Rows.{Row}
use Rattle.groups.proofs.rows.Rows.read.Given as goal

abbrev pub invariant-loop-p : goal.invariant-loop-p
invariant-loop-p g l = let m = g.B.Bond in
    (m.pairs l.bond ≡ m.pairs l.initial.bond) × (m.points l.bond ≡ m.points l.initial.bond) × (l.size ≤ 64) × (length l.bits ≡ 64)
    × ((k : ℕ) → k < l.p → Row (m.pairs l.initial.bond) k (get_or l.bits k 0))
    × ((k : ℕ) → l.p ≤ k → get_or l.bits k 0 ≡ 0)
