use Rattle.std.proofs.Common.{◌≡◌, ◌+◌}
use lib.Seq.{paste}
use Rattle.book.proofs.shape.Book.append.Given as goal

abbrev pub invariant-loop-k : goal.invariant-loop-k
invariant-loop-k l =
    (l.self.words.now ≡ paste l.initial.self.words.now (l.at + 1) l.job l.k)
    × (l.self.used ≡ l.initial.self.used)
    × (l.self.steps ≡ l.initial.self.steps)
    × (l.self.words.ghost_name ≡ l.initial.self.words.ghost_name)
