use Rattle.std.proofs.lemmas.Result.{err_from_is_err_and}
use Rattle.book.specs.View.{held_by}
use Rattle.net.proofs.Seated.{lowest, draws}
use Rattle.net.proofs.plans.Plan.of.Goals as goal

pub returns-in_err-seats : goal.returns-in_err-seats
returns-in_err-seats c =
    let p = err_from_is_err_and c.from_residual.result c.from_residual.ensures.1 in
    rw (p.1, p.2) (lowest (held_by c.args.book.now) c.of-relations.result c.of-relations.ensures.shows c.args.places.list.now _ c.in_err-seats.ensures)

pub returns : goal.returns
returns c = draws (held_by c.args.book.now) c.of-relations.result c.of-relations.ensures.shows c.args.places.list.now c.in_ok-seats.seats c.in_ok-seats.ensures c.requires c.args.places.few
