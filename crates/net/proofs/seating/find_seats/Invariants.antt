use Rattle.net.proofs.Seated.{Seating}
use Rattle.net.proofs.seating.find_seats.Given as goal

abbrev pub invariant-loop-step : goal.invariant-loop-step
invariant-loop-step l = Seating l.relations l.places.list.now l.seats l.step-iterator
