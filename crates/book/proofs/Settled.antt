-- An entry has one answer, and leaves one list of jobs. Assumes nothing.
use Rattle.std.proofs.Common.{◌≡◌, ℕ, ◌+◌, ◌<◌, ◌≤◌, List, length, Some, None, Ok, Err, Result, sym, refl, ap, ◌∙◌, ⊎_elim, arith}
use Rattle.std.proofs.lemmas.List.{length-map}
use Rattle.std.proofs.lemmas.Bool.{cases_order}
use Rattle.std.specs.declared.cmp.Ordering.{Ordering}
use Rattle.steps.specs.declared.faults.RosterFault.TheVariants.{Unfit, Unlisted}
use Rattle.steps.specs.Rosters.{FirstUnlisted, number_of, numbers}
use Rattle.steps.proofs.Firsts.{unlisted_once}
use Rattle.book.specs.declared.entries.Entry.{Entry}
use Rattle.book.specs.declared.entries.Entry.TheVariants.{New, Held}
use Rattle.book.specs.declared.faults.EnterFault.{EnterFault}
use Rattle.book.specs.declared.faults.EnterFault.TheVariants.{Void as IsVoid, Roster, Events, Room}
use Rattle.book.specs.Enter.{Entered, HeldAt, unused}
use Rattle.book.specs.Jobs.{Apart}
use Rattle.book.proofs.Voids.{void_open, void_same}

module _ {S : Type 0} (order : S → S → Ordering) (steps len : ℕ) (js : List (List ℕ)) (apart : Apart js) (roster job : List S) where
  not_both : (p : ℕ) → FirstUnlisted roster job (Some p) → FirstUnlisted roster job None → ⊥
  not_both p h k =
      let e : None ≡ Some p = unlisted_once roster job (Some p) None h k in
      let z : ◌≡◌ {A = ℕ} 0 1 = cc in
      omega arith

  same_place : (p r : ℕ) → FirstUnlisted roster job (Some p) → FirstUnlisted roster job (Some r) → p ≡ r
  same_place p r h k = let e : Some r ≡ Some p = unlisted_once roster job (Some p) (Some r) h k in cc

  no_room : unused len js < length job + 1 → length (numbers order roster job) + 1 ≤ unused len js → ⊥
  no_room h k = omega (arith, length-map job (number_of order roster))

  same_number : (n m : ℕ) → HeldAt js (numbers order roster job) n → HeldAt js (numbers order roster job) m → n ≡ m
  same_number n m h k =
      ⊎_elim (λ e. e) (⊎_elim (λ l. absurd (apart n m l k.0 (h.1 ∙ sym k.1))) (λ l. absurd (apart m n l h.0 (k.1 ∙ sym h.1)))) (cases_order n m)

  -- the first row at which two answers part is declined by one and passed by the other
  pub settled : (r s : Result Entry EnterFault) (a b : List (List ℕ)) → Entered order steps len js roster job r a → Entered order steps len js roster job s b → (s ≡ r) × (b ≡ a)
  settled (Err (IsVoid n)) (Err (IsVoid m)) a b p q = (ap (λ z. Err (IsVoid z)) (void_same steps len m n q.0 p.0), q.1 ∙ sym p.1)
  settled (Err (IsVoid n)) (Err (Roster Unfit)) a b p q = absurd (void_open steps len n p.0 q.0)
  settled (Err (IsVoid n)) (Err Events) a b p q = absurd (void_open steps len n p.0 q.0)
  settled (Err (IsVoid n)) (Err (Roster (Unlisted m))) a b p q = absurd (void_open steps len n p.0 q.0)
  settled (Err (IsVoid n)) (Err Room) a b p q = absurd (void_open steps len n p.0 q.0)
  settled (Err (IsVoid n)) (Ok (Held m)) a b p q = absurd (void_open steps len n p.0 q.0)
  settled (Err (IsVoid n)) (Ok (New m)) a b p q = absurd (void_open steps len n p.0 q.0)
  settled (Err (Roster Unfit)) (Err (IsVoid m)) a b p q = absurd (void_open steps len m q.0 p.0)
  settled (Err (Roster Unfit)) (Err (Roster Unfit)) a b p q = (refl, q.2 ∙ sym p.2)
  settled (Err (Roster Unfit)) (Err Events) a b p q = absurd (p.1 q.1)
  settled (Err (Roster Unfit)) (Err (Roster (Unlisted m))) a b p q = absurd (p.1 q.1)
  settled (Err (Roster Unfit)) (Err Room) a b p q = absurd (p.1 q.1)
  settled (Err (Roster Unfit)) (Ok (Held m)) a b p q = absurd (p.1 q.1)
  settled (Err (Roster Unfit)) (Ok (New m)) a b p q = absurd (p.1 q.1)
  settled (Err Events) (Err (IsVoid m)) a b p q = absurd (void_open steps len m q.0 p.0)
  settled (Err Events) (Err (Roster Unfit)) a b p q = absurd (q.1 p.1)
  settled (Err Events) (Err Events) a b p q = (refl, q.3 ∙ sym p.3)
  settled (Err Events) (Err (Roster (Unlisted m))) a b p q = absurd (p.2 q.2)
  settled (Err Events) (Err Room) a b p q = absurd (p.2 q.2)
  settled (Err Events) (Ok (Held m)) a b p q = absurd (p.2 q.2)
  settled (Err Events) (Ok (New m)) a b p q = absurd (p.2 q.2)
  settled (Err (Roster (Unlisted n))) (Err (IsVoid m)) a b p q = absurd (void_open steps len m q.0 p.0)
  settled (Err (Roster (Unlisted n))) (Err (Roster Unfit)) a b p q = absurd (q.1 p.1)
  settled (Err (Roster (Unlisted n))) (Err Events) a b p q = absurd (q.2 p.2)
  settled (Err (Roster (Unlisted n))) (Err (Roster (Unlisted m))) a b p q = (ap (λ z. Err (Roster (Unlisted z))) (same_place m n q.3 p.3), q.4 ∙ sym p.4)
  settled (Err (Roster (Unlisted n))) (Err Room) a b p q = absurd (not_both n p.3 q.3)
  settled (Err (Roster (Unlisted n))) (Ok (Held m)) a b p q = absurd (not_both n p.3 q.3)
  settled (Err (Roster (Unlisted n))) (Ok (New m)) a b p q = absurd (not_both n p.3 q.3)
  settled (Err Room) (Err (IsVoid m)) a b p q = absurd (void_open steps len m q.0 p.0)
  settled (Err Room) (Err (Roster Unfit)) a b p q = absurd (q.1 p.1)
  settled (Err Room) (Err Events) a b p q = absurd (q.2 p.2)
  settled (Err Room) (Err (Roster (Unlisted m))) a b p q = absurd (not_both m q.3 p.3)
  settled (Err Room) (Err Room) a b p q = (refl, q.6 ∙ sym p.6)
  settled (Err Room) (Ok (Held m)) a b p q = absurd (p.4 m q.4.0.0 q.4.0.1)
  settled (Err Room) (Ok (New m)) a b p q = absurd (no_room p.5 q.4.1)
  settled (Ok (Held n)) (Err (IsVoid m)) a b p q = absurd (void_open steps len m q.0 p.0)
  settled (Ok (Held n)) (Err (Roster Unfit)) a b p q = absurd (q.1 p.1)
  settled (Ok (Held n)) (Err Events) a b p q = absurd (q.2 p.2)
  settled (Ok (Held n)) (Err (Roster (Unlisted m))) a b p q = absurd (not_both m q.3 p.3)
  settled (Ok (Held n)) (Err Room) a b p q = absurd (q.4 n p.4.0.0 p.4.0.1)
  settled (Ok (Held n)) (Ok (Held m)) a b p q = (ap (λ z. Ok (Held z)) (same_number m n q.4.0 p.4.0), q.4.1 ∙ sym p.4.1)
  settled (Ok (Held n)) (Ok (New m)) a b p q = absurd (q.4.0 n p.4.0.0 p.4.0.1)
  settled (Ok (New n)) (Err (IsVoid m)) a b p q = absurd (void_open steps len m q.0 p.0)
  settled (Ok (New n)) (Err (Roster Unfit)) a b p q = absurd (q.1 p.1)
  settled (Ok (New n)) (Err Events) a b p q = absurd (q.2 p.2)
  settled (Ok (New n)) (Err (Roster (Unlisted m))) a b p q = absurd (not_both m q.3 p.3)
  settled (Ok (New n)) (Err Room) a b p q = absurd (no_room q.5 p.4.1)
  settled (Ok (New n)) (Ok (Held m)) a b p q = absurd (p.4.0 m q.4.0.0 q.4.0.1)
  settled (Ok (New n)) (Ok (New m)) a b p q = (ap (λ z. Ok (New z)) (q.4.2 ∙ sym p.4.2), q.4.3 ∙ sym p.4.3)
