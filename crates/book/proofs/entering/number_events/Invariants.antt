use Rattle.std.proofs.Common.{◌≡◌, length, take}
use Rattle.steps.specs.Rosters.{ListedBelow, numbers}
use Rattle.book.specs.Jobs.{OfSteps}
use Rattle.book.proofs.entering.number_events.Given as goal

abbrev pub invariant-loop-place : goal.invariant-loop-place
invariant-loop-place g l =
    (l.numbers.items ≡ numbers g.T.Ord.cmp l.roster.entries.now (take l.place l.job))
    × ListedBelow l.roster.entries.now l.job l.place
    × OfSteps (length l.roster.entries.now) l.numbers.items
