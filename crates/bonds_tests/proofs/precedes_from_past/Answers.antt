use Rattle.std.proofs.Common.{arith, ◌∙◌}
use Rattle.flow.proofs.Marks.{row_past}
use Rattle.bonds_tests.proofs.precedes_from_past.Goals as goal

pub returns : goal.returns
returns c = c.precedes.ensures ∙ row_past c.args.relations.now.precedes 32 c.args.b (omega (arith, c.args.relations.now.long.2))
