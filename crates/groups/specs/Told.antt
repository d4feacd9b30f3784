-- What a list answers
use Rattle.std.specs.Prelude.{◌≡◌, ℕ, ◌<◌, ◌≤◌, Bool, List, length, take, drop, Ok, Err, Result}
use Rattle.groups.specs.declared.faults.ListFault.{ListFault}
use Rattle.groups.specs.declared.faults.ListFault.TheVariants.{TooMany, TooShort}
use Rattle.groups.specs.Listings.{Listing}

-- what is answered where `groups` are to be listed, and the memory was `old` and is `new`
abbrev pub Answer : List ℕ → List ℕ → List ℕ → Result ℕ ListFault → Type 0
Answer groups old new (Ok n) = (n ≡ length groups) × (n ≤ 256) × (take n new ≡ groups) × (drop n new ≡ drop n old) × (length new ≡ length old)
Answer groups old new (Err TooMany) = (256 < length groups) × (new ≡ old)
Answer groups old new (Err TooShort) = (length groups ≤ 256) × (length old < length groups) × (new ≡ old)

-- what is answered for a bond and two marks
abbrev pub Told : (ℕ → ℕ → Bool) → ℕ → ℕ → List ℕ → List ℕ → Result ℕ ListFault → Type 0
Told pairs first second old new r = (groups : List ℕ) × Listing pairs first second groups × Answer groups old new r

-- nothing else may be answered, and the memory may be nothing else
unfoldable pub OnlyTold : (ℕ → ℕ → Bool) → ℕ → ℕ → List ℕ → List ℕ → Result ℕ ListFault → Type 0
OnlyTold pairs first second old new r = (other : List ℕ) (s : Result ℕ ListFault) → Told pairs first second old other s → (other ≡ new) × (s ≡ r)
