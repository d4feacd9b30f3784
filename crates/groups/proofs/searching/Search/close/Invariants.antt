use Rattle.std.proofs.Common.{◌-◌, ◌≤◌, length}
use Rattle.groups.specs.Search.{Kept, Seeded, Closed}
use Rattle.groups.proofs.searching.Search.close.Given as goal

abbrev pub invariant-loop-i : goal.invariant-loop-i
invariant-loop-i l = Kept l.initial.self l.self × Seeded l.self 64 × Closed l.self l.i × (l.i ≤ length l.self.found.items)

abbrev pub decreases-loop-i : goal.decreases-loop-i
decreases-loop-i l = 256 - l.i
