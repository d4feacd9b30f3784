use Rattle.net.proofs.Putting.{Putting, seat_word}
use Rattle.net.proofs.writing.put_loops.Given as goal

abbrev pub invariant-loop-step : goal.invariant-loop-step
invariant-loop-step l = Putting l.initial.cursor (seat_word l.seats) l.fn.steps l.yielded l.step-iterator l.cursor
