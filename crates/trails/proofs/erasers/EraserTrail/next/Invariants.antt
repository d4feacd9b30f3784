use Rattle.std.proofs.Common.{◌≡◌, length}
use Rattle.trails.specs.Erased.{erased}
use Rattle.trails.proofs.erasers.EraserTrail.next.Given as goal

abbrev pub invariant-loop-next : goal.invariant-loop-next
invariant-loop-next g l =
    (erased g.T.Step.Ord.cmp l.self.step (g.T.Trail.jobs l.self.below) ≡ erased g.T.Step.Ord.cmp l.initial.self.step (g.T.Trail.jobs l.initial.self.below))
    × (g.T.Trail.ending l.self.below ≡ g.T.Trail.ending l.initial.self.below)

abbrev pub decreases-loop-next : goal.decreases-loop-next
decreases-loop-next g l = length (g.T.Trail.jobs l.self.below)
