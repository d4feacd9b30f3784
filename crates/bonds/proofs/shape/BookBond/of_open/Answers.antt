use Rattle.std.proofs.Common.{length, ◌∙◌}
use Rattle.book.specs.View.{held_by, memory_of}
use Rattle.bonds.proofs.Openings.{of_open_lem}
use Rattle.bonds.proofs.shape.BookBond.of_open.Goals as goal

pub returns : goal.returns
returns g c =
    let js = held_by c.args.book.now in
    g.met.K.BondKind.shown js c.of.result c.of.ensures.shows ∙ of_open_lem c.args.book.now.steps (length (memory_of c.args.book.now)) (g.K.BondKind.pairs js) c.requires
