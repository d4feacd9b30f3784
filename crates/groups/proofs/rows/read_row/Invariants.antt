use Rattle.std.proofs.Common.{◌≡◌}
use Rattle.groups.proofs.Reading.{Reading}
use Rattle.groups.proofs.rows.read_row.Given as goal

abbrev pub invariant-loop-q : goal.invariant-loop-q
invariant-loop-q g l = let m = g.B.Bond in
    (m.pairs l.bond ≡ m.pairs l.initial.bond) × (m.points l.bond ≡ m.points l.initial.bond) × Reading (m.pairs l.initial.bond) l.p l.row l.q
