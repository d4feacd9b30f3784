use Rattle.net.proofs.Seats.{high_decides, low_other}
use Rattle.net.proofs.places.is_between.Goals as goal

pub returns-then-feeders-from : goal.returns-then-feeders-from
returns-then-feeders-from c =
    rw (← c.from.ensures, ← c.from-then-feeders-from.ensures)
    (high_decides c.args.place c.from.result c.from-then-feeders-from.result c.feeders.result c.fed.result c.fed.type_inv c.from-then-feeders-from.type_inv c.feeders.ensures c.fed.ensures c.if-feeders-from.true)

pub returns-else-feeders-from : goal.returns-else-feeders-from
returns-else-feeders-from c =
    rw (← c.from.ensures) (low_other c.args.place c.from.result c.args.to c.feeders.result c.feeders.type_inv c.from.type_inv c.feeders.ensures c.if-feeders-from.false)
