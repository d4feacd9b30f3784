-- What an entry answers, and what the book holds after it
use Rattle.std.specs.Prelude.{◌≡◌, ℕ, ◌+◌, ◌-◌, ◌<◌, ◌≤◌, List, [], ◌∷◌, ◌++◌, length, Some, None, Ok, Err, Result, ◌≢◌, slice_index_or}
use Rattle.std.proofs.Math.Seq.{paste}
use Rattle.std.specs.declared.cmp.Ordering.{Ordering}
use Rattle.steps.specs.declared.faults.RosterFault.{RosterFault}
use Rattle.steps.specs.declared.faults.RosterFault.TheVariants.{Unfit, Unlisted}
use Rattle.steps.specs.Rosters.{Fit, FirstUnlisted, numbers}
use Rattle.book.specs.declared.entries.Entry.{Entry}
use Rattle.book.specs.declared.entries.Entry.TheVariants.{New, Held}
use Rattle.book.specs.declared.faults.Void.{Void}
use Rattle.book.specs.declared.faults.Void.TheVariants.{Steps, Memory}
use Rattle.book.specs.declared.faults.NoRoom.{NoRoom}
use Rattle.book.specs.declared.faults.EnterFault.{EnterFault}
use Rattle.book.specs.declared.faults.EnterFault.TheVariants.{Void as IsVoid, Roster, Events, Room}
use Rattle.book.specs.Jobs.{encode, encoded, Opens, OfSteps}

-- the job is held with the number n; no job held is equal to it
abbrev pub HeldAt : List (List ℕ) → List ℕ → ℕ → Type 0
HeldAt js job n = (n < length js) × (slice_index_or js n [] ≡ job)

abbrev pub NotHeld : List (List ℕ) → List ℕ → Type 0
NotHeld js job = (i : ℕ) → i < length js → slice_index_or js i [] ≢ job

-- 1 to 1,000 events
abbrev pub Countable : {S : Type 0} → List S → Type 0
Countable job = (1 ≤ length job) × (length job ≤ 1000)

-- the words that no job has taken
abbrev pub unused : ℕ → List (List ℕ) → ℕ
unused len js = len - 1 - length (encode js)

-- why a book is void, the number of steps first
abbrev pub VoidBy : ℕ → ℕ → Void → Type 0
VoidBy steps len Steps = (1 ≤ steps) × (steps ≤ 32) → ⊥
VoidBy steps len Memory = (1 ≤ steps) × (steps ≤ 32) × ((2 ≤ len) × (len ≤ 16384) → ⊥)

-- whether a book is void
abbrev pub OpenOrNot : {A : Type 0} → ℕ → ℕ → Result A Void → Type 0
OpenOrNot steps len (Ok _) = Opens steps len
OpenOrNot steps len (Err v) = VoidBy steps len v

-- what keeping a job of step numbers answers, and the jobs held after it
abbrev pub Kept : ℕ → List (List ℕ) → List ℕ → Result Entry NoRoom → List (List ℕ) → Type 0
Kept len js job (Ok (New n)) js' = NotHeld js job × (length job + 1 ≤ unused len js) × (n ≡ length js) × (js' ≡ js ++ job ∷ [])
Kept len js job (Ok (Held n)) js' = HeldAt js job n × (js' ≡ js)
Kept len js job (Err e) js' = NotHeld js job × (unused len js < length job + 1) × (js' ≡ js)

-- the memory after it: a new job's words stand after those of the jobs held, and nothing else changes
abbrev pub written : {E : Type 0} → List (List ℕ) → List ℕ → Result Entry E → List ℕ → List ℕ
written js job (Ok (New n)) ws = paste ws (1 + length (encode js)) (encoded job) (length (encoded job))
written js job (Ok (Held n)) ws = ws
written js job (Err e) ws = ws

-- a job has no step numbers, for its first event that is not on the roster
abbrev pub Unnumbered : {S : Type 0} → List S → List S → RosterFault → Type 0
Unnumbered roster job Unfit = ⊥
Unnumbered roster job (Unlisted p) = FirstUnlisted roster job (Some p)

module _ {S : Type 0} (order : S → S → Ordering) where
  -- each event of a job is on the roster, and these are its step numbers
  abbrev pub AllNumbered : List S → List S → List ℕ → Type 0
  AllNumbered roster job out = FirstUnlisted roster job None × (out ≡ numbers order roster job) × OfSteps (length roster) out

  -- an entry's answer, row by row, and the jobs held after it: a void book's row, 3, 4, 5, 6
  abbrev pub Entered : ℕ → ℕ → List (List ℕ) → List S → List S → Result Entry EnterFault → List (List ℕ) → Type 0
  Entered steps len js roster job (Ok a) js' = Opens steps len × Fit order roster steps × Countable job × FirstUnlisted roster job None × Kept len js (numbers order roster job) (Ok a) js'
  Entered steps len js roster job (Err (IsVoid v)) js' = VoidBy steps len v × (js' ≡ js)
  Entered steps len js roster job (Err (Roster Unfit)) js' = Opens steps len × (Fit order roster steps → ⊥) × (js' ≡ js)
  Entered steps len js roster job (Err Events) js' = Opens steps len × Fit order roster steps × (Countable job → ⊥) × (js' ≡ js)
  Entered steps len js roster job (Err (Roster (Unlisted p))) js' = Opens steps len × Fit order roster steps × Countable job × FirstUnlisted roster job (Some p) × (js' ≡ js)
  Entered steps len js roster job (Err Room) js' =
      Opens steps len × Fit order roster steps × Countable job × FirstUnlisted roster job None × NotHeld js (numbers order roster job) × (unused len js < length job + 1) × (js' ≡ js)
