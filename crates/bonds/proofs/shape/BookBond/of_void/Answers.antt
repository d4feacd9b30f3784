use Rattle.std.proofs.Common.{length}
use Rattle.book.specs.View.{held_by, memory_of}
use Rattle.bonds.proofs.Openings.{of_void_lem}
use Rattle.bonds.proofs.shape.BookBond.of_void.Goals as goal

pub returns : goal.returns
returns g c = of_void_lem c.args.book.now.steps (length (memory_of c.args.book.now)) (g.K.BondKind.pairs (held_by c.args.book.now)) c.requires
