use Rattle.std.proofs.Common.{rules}
use Rattle.flow.proofs.Marks.{no_rows}
use Rattle.flow.proofs.rows.StepRelationDefault.default.Goals as goal

pub invariant_of-result : goal.invariant_of-result
invariant_of-result c = (c.default.ensures.long, λ a b _. no_rows c.default.result c.default.ensures.long (λ a l. let d = c.default.ensures.at a 0 l in search rules) a b)
