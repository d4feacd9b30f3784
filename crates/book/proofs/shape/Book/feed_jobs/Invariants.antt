use Rattle.std.proofs.Common.{◌≡◌, ℕ, ◌+◌, List, length, Result}
use Rattle.book.specs.declared.faults.FeedFault.{FeedFault}
use Rattle.book.specs.Feed.{Feeds, laid}
use Rattle.book.specs.View.{Stays, held_by, memory_of}
use Rattle.book.proofs.shape.Book.feed_jobs.Given as goal

-- what the jobs still to come make of the book is what all the jobs make of it
abbrev pub invariant-loop-next : goal.invariant-loop-next
invariant-loop-next g l =
    Stays l.initial.self l.self
    × (length l.work ≡ length l.initial.work)
    × (l.count + length (g.T.Trail.jobs l.trail) ≡ length (g.T.Trail.jobs l.initial.trail))
    × (g.T.Trail.ending l.trail ≡ g.T.Trail.ending l.initial.trail)
    × (memory_of l.self ≡ laid (memory_of l.initial.self) (held_by l.self))
    × ((r : Result ℕ FeedFault) (hs : List (List ℕ)) (left : List (List g.row.T-Step.Denot))
    → Feeds g.T.Step.Ord.cmp l.initial.self.steps (length (memory_of l.initial.self)) l.roster.entries.now (g.T.Trail.jobs l.trail) (g.T.Trail.ending l.initial.trail) l.count (held_by l.self) r hs left
    → Feeds g.T.Step.Ord.cmp l.initial.self.steps (length (memory_of l.initial.self)) l.roster.entries.now (g.T.Trail.jobs l.initial.trail) (g.T.Trail.ending l.initial.trail) 0 (held_by l.initial.self) r hs left)

abbrev pub decreases-loop-next : goal.decreases-loop-next
decreases-loop-next g l = length (g.T.Trail.jobs l.trail)
