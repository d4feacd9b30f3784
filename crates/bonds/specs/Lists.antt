-- What a list of a book's bond answers
use Rattle.std.specs.Prelude.{◌≡◌, ℕ, Bool, List, Ok, Err, Result}
use Rattle.book.specs.Jobs.{Opens}
use Rattle.book.specs.Enter.{VoidBy}
use Rattle.groups.specs.Told.{Told}
use Rattle.bonds.specs.declared.faults.BondFault.{BondFault}
use Rattle.bonds.specs.declared.faults.BondFault.TheVariants as fault

-- a void book's row first, then as the list of its pairs and marks; the memory was `old` and is `new`
abbrev pub Lists : ℕ → ℕ → (ℕ → ℕ → Bool) → ℕ → ℕ → List ℕ → List ℕ → Result ℕ BondFault → Type 0
Lists steps len pairs first second old new (Ok n) = Opens steps len × Told pairs first second old new (Ok n)
Lists steps len pairs first second old new (Err (fault.Void v)) = VoidBy steps len v × (new ≡ old)
Lists steps len pairs first second old new (Err (fault.List f)) = Opens steps len × Told pairs first second old new (Err f)

-- nothing else may be answered, and the memory may be nothing else
unfoldable pub OnlyLists : ℕ → ℕ → (ℕ → ℕ → Bool) → ℕ → ℕ → List ℕ → List ℕ → Result ℕ BondFault → Type 0
OnlyLists steps len pairs first second old new r = (other : List ℕ) (s : Result ℕ BondFault) → Lists steps len pairs first second old other s → (other ≡ new) × (s ≡ r)
