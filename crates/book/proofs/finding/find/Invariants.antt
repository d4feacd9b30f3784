use Rattle.std.proofs.Common.{◌≡◌, ℕ, ◌-◌, ◌<◌, ◌≤◌, [], length, get_or, take, drop}
use Rattle.book.specs.Jobs.{encode, held}
use Rattle.book.proofs.finding.find.Given as goal

abbrev pub invariant-loop-at : goal.invariant-loop-at
invariant-loop-at l =
    (drop l.at (take l.used l.words) ≡ encode (drop l.n (held l.used l.words)))
    × (l.n < l.at)
    × (l.n ≤ length (held l.used l.words))
    × ((i : ℕ) → i < l.n → get_or (held l.used l.words) i [] ≡ l.job → ⊥)

abbrev pub decreases-loop-at : goal.decreases-loop-at
decreases-loop-at l = l.used - l.at
