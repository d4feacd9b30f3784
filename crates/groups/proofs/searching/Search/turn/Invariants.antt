use Rattle.groups.specs.Search.{Kept, ClosedAt}
use Rattle.groups.proofs.searching.Search.turn.Given as goal

abbrev pub invariant-loop-w : goal.invariant-loop-w
invariant-loop-w l = Kept l.initial.self l.self × ClosedAt l.self l.group l.w
