-- What a draw answers
use Rattle.std.specs.Prelude.{◌≡◌, ℕ, ◌<◌, ◌≤◌, true, false, List, length, take, drop, Ok, Err, Result}
use Rattle.book.specs.Jobs.{Opens}
use Rattle.book.specs.Enter.{VoidBy}
use Rattle.flow.specs.Flow.{Jobs, some, looping}
use Rattle.net.specs.Net.{Places, Draws, sits}
use Rattle.net.specs.declared.faults.DrawFault.{DrawFault}
use Rattle.net.specs.declared.faults.DrawFault.TheVariants.{Void, TooMany, Unseated, TooShort}

-- t is the lowest looping step that sits on none of the places
pub record LowestUnseated (js : Jobs) (groups : List ℕ) (t : ℕ) : Type 0 where
  pub step : t < 32
  pub loops : looping js t ≡ true
  pub unseated : some (sits js t) groups ≡ false
  pub lowest : (s : ℕ) → s < t → looping js s ≡ true → some (sits js s) groups ≡ true

-- a draw's answer, row by row: a void book's row, 10, 9, 11; the memory was `old` and is `new`
abbrev pub Drew : ℕ → ℕ → Jobs → List ℕ → List ℕ → Result ℕ DrawFault → Type 0
Drew steps len js old new (Ok n) =
    Opens steps len × ((ws : List ℕ) × Draws js ws × (n ≡ length ws) × (take n new ≡ ws) × (drop n new ≡ drop n old) × (length new ≡ length old))
Drew steps len js old new (Err (Void v)) = VoidBy steps len v × (new ≡ old)
Drew steps len js old new (Err TooMany) = Opens steps len × ((groups : List ℕ) × Places js groups × (256 < length groups)) × (new ≡ old)
Drew steps len js old new (Err (Unseated t)) =
    Opens steps len × ((groups : List ℕ) × Places js groups × (length groups ≤ 256) × LowestUnseated js groups t) × (new ≡ old)
Drew steps len js old new (Err TooShort) = Opens steps len × ((ws : List ℕ) × Draws js ws × (length old < length ws)) × (new ≡ old)

-- nothing else may be answered, and the memory may be nothing else
unfoldable pub OnlyDrew : ℕ → ℕ → Jobs → List ℕ → List ℕ → Result ℕ DrawFault → Type 0
OnlyDrew steps len js old new r = (other : List ℕ) (s : Result ℕ DrawFault) → Drew steps len js old other s → (other ≡ new) × (s ≡ r)
