use Rattle.std.proofs.lemmas.List.Filters.{FiltersInPlace}
use Rattle.std.specs.Ordering.{is_ne}
use Rattle.trails.proofs.erasers.take_out.Given as goal

abbrev pub invariant-loop-i : goal.invariant-loop-i
invariant-loop-i g l = FiltersInPlace (λ x. is_ne (g.S.Ord.cmp x l.step)) l.initial.work l.work l.left l.i
