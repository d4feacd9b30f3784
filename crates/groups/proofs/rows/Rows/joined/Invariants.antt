use Rattle.groups.specs.Rows.{held}
use Rattle.groups.proofs.Grow.{Growing}
use Rattle.groups.proofs.rows.Rows.joined.Given as goal

abbrev pub invariant-loop-x : goal.invariant-loop-x
invariant-loop-x l = Growing (held l.self.bits) l.set l.group l.x
