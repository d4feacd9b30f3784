use Rattle.std.proofs.Common.{rules, length, sym, ◌∙◌}
use Rattle.book.specs.View.{held_by, memory_of}
use Rattle.bonds.proofs.Openings.{of_open_lem}
use Rattle.bonds.proofs.listing.list_bond.Goals as goal

pub returns-in_err-count : goal.returns-in_err-count
returns-in_err-count g c =
    let b = c.args.book.now in
    let opens = c.in_ok-open_or_void.ensures in
    let e = c.of-bond.ensures ∙ sym (of_open_lem b.steps (length (memory_of b)) (g.K.BondKind.pairs (held_by b)) opens) in
    let told = rw (e, c.FIRST_MARK.ensures, c.SECOND_MARK.ensures) at c.in_err-count.ensures.told in
    search rules

pub returns : goal.returns
returns g c =
    let b = c.args.book.now in
    let opens = c.in_ok-open_or_void.ensures in
    let e = c.of-bond.ensures ∙ sym (of_open_lem b.steps (length (memory_of b)) (g.K.BondKind.pairs (held_by b)) opens) in
    (opens, rw (e, c.FIRST_MARK.ensures, c.SECOND_MARK.ensures) at c.in_ok-count.ensures.told)
