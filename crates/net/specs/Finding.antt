-- What finding the places of a book's net answers
use Rattle.std.specs.Prelude.{ℕ, ◌<◌, List, length, Ok, Err, Result}
use Rattle.book.specs.Jobs.{Opens}
use Rattle.book.specs.Enter.{VoidBy}
use Rattle.flow.specs.Flow.{Jobs}
use Rattle.net.specs.Net.{Places}
use Rattle.net.specs.declared.places.PlaceList.{PlaceList}
use Rattle.net.specs.declared.faults.DrawFault.{DrawFault}
use Rattle.net.specs.declared.faults.DrawFault.TheVariants.{Void, TooMany, Unseated, TooShort}

-- all places, unless the book is void or there are over 256
abbrev pub Found : ℕ → ℕ → Jobs → Result PlaceList DrawFault → Type 0
Found steps len js (Ok places) = Opens steps len × Places js places.list.now
Found steps len js (Err (Void v)) = VoidBy steps len v
Found steps len js (Err TooMany) = Opens steps len × ((groups : List ℕ) × Places js groups × (256 < length groups))
Found steps len js (Err (Unseated t)) = ⊥
Found steps len js (Err TooShort) = ⊥
