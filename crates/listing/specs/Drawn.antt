-- What drawing a book's net for its page answers
use Rattle.std.specs.Prelude.{ℕ, ◌^◌, ◌<◌, ◌≤◌, List, length, Ok, Err, Result, slice_index}
use Rattle.std.specs.Borrow.{Bor}
use Rattle.steps.specs.declared.names.Name.{Name}
use Rattle.book.specs.Jobs.{Opens}
use Rattle.book.specs.Enter.{VoidBy}
use Rattle.flow.specs.Flow.{Jobs}
use Rattle.net.specs.Net.{Places}
use Rattle.net.specs.Draw.{LowestUnseated}
use Rattle.net.specs.declared.faults.DrawFault.{DrawFault}
use Rattle.net.specs.declared.faults.DrawFault.TheVariants.{Void, TooMany, Unseated, TooShort}
use Rattle.listing.specs.Listed.{Lists}
use Rattle.listing.specs.Pieces.{Tagged, paged}

-- few words, each of a kind, whose page by any roster is that of the jobs, unless they cannot be drawn
abbrev pub DrawnFor : ℕ → ℕ → Jobs → Result (Bor (List ℕ)) DrawFault → Type 0
DrawnFor steps len js (Ok words) = Opens steps len × (length words.now ≤ 2 ^ 32) × ((k : ℕ) → k < length words.now → Tagged (slice_index words.now k)) × ((roster : List Name) → Lists js roster (paged roster words.now))
DrawnFor steps len js (Err (Void v)) = VoidBy steps len v
DrawnFor steps len js (Err TooMany) = Opens steps len × ((groups : List ℕ) × Places js groups × (256 < length groups))
DrawnFor steps len js (Err (Unseated t)) = Opens steps len × ((groups : List ℕ) × Places js groups × (length groups ≤ 256) × LowestUnseated js groups t)
DrawnFor steps len js (Err TooShort) = ⊥
