use Rattle.groups.specs.Search.{Kept, SeededAt}
use Rattle.groups.proofs.searching.Search.seed_at.Given as goal

abbrev pub invariant-loop-v : goal.invariant-loop-v
invariant-loop-v l = Kept l.initial.self l.self × SeededAt l.self l.u l.v
