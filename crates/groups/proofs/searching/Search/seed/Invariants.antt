use Rattle.groups.specs.Search.{Kept, Seeded}
use Rattle.groups.proofs.searching.Search.seed.Given as goal

abbrev pub invariant-loop-u : goal.invariant-loop-u
invariant-loop-u l = Kept l.initial.self l.self × Seeded l.self l.u
