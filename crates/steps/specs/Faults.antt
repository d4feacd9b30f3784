-- What a roster declines, and the five numbers of each fault
use Rattle.std.specs.Prelude.{ℕ, List, Some, None, Ok, Err, Result}
use Rattle.refusals.specs.declared.Refusal.{Refusal}
use Rattle.std.specs.declared.cmp.Ordering.{Ordering}
use Rattle.steps.specs.declared.faults.RosterFault.{RosterFault}
use Rattle.steps.specs.declared.faults.RosterFault.TheVariants.{Unfit, Unlisted}
use Rattle.steps.specs.Rosters.{Fit, FirstUnlisted}

abbrev pub refusal_of : RosterFault → Refusal
refusal_of Unfit = record { row = 3; layer = 2; job = 0; place = 0; cause = 0 }
refusal_of (Unlisted place) = record { row = 5; layer = 2; job = 0; place = place; cause = 0 }

-- whether a roster is fit for a call that asks for n steps
abbrev pub FitOrNot : {S A : Type 0} → (S → S → Ordering) → List S → ℕ → Result A RosterFault → Type 0
FitOrNot order steps n (Ok _) = Fit order steps n
FitOrNot order steps n (Err Unfit) = Fit order steps n → ⊥
FitOrNot order steps n (Err (Unlisted place)) = ⊥

-- whether each event of a job is on a roster, and else the first that is not
abbrev pub ListedOrNot : {S A : Type 0} → List S → List S → Result A RosterFault → Type 0
ListedOrNot steps job (Ok _) = FirstUnlisted steps job None
ListedOrNot steps job (Err Unfit) = ⊥
ListedOrNot steps job (Err (Unlisted place)) = FirstUnlisted steps job (Some place)
