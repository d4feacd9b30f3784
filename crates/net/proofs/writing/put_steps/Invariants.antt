use Rattle.net.specs.Kinds.{number_of}
use Rattle.net.specs.Net.{word}
use Rattle.net.proofs.Putting.{Putting}
use Rattle.net.proofs.writing.put_steps.Given as goal

abbrev pub invariant-loop-step : goal.invariant-loop-step
invariant-loop-step l = Putting l.initial.cursor (word (number_of l.kind)) l.fn.steps l.yielded l.step-iterator l.cursor
