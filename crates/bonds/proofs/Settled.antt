-- A list of a book's bond has one answer
use Rattle.std.proofs.Common.{◌≡◌, ℕ, Bool, List, Ok, Err, Result, sym, ap, ◌∙◌}
use Rattle.groups.specs.declared.faults.ListFault.{ListFault}
use Rattle.groups.specs.Told.{Told, OnlyTold}
use Rattle.groups.proofs.Finish.{only_told}
use Rattle.bonds.specs.declared.faults.BondFault.{BondFault}
use Rattle.bonds.specs.declared.faults.BondFault.TheVariants as fault
use Rattle.bonds.specs.Lists.{Lists, OnlyLists}
use Rattle.book.proofs.Voids.{void_open, void_same}

module _ (steps len : ℕ) (pairs : ℕ → ℕ → Bool) (first second : ℕ) (old : List ℕ) where
  told_once : (new other : List ℕ) (r s : Result ℕ ListFault) → Told pairs first second old new r → Told pairs first second old other s → (other ≡ new) × (s ≡ r)
  unfolding OnlyTold
  told_once new other r s a b = only_told pairs first second old new r a other s b

  -- the list's result, as that of the book's list
  abbrev outer : Result ℕ ListFault → Result ℕ BondFault
  outer (Ok n) = Ok n
  outer (Err f) = Err (fault.List f)

  once : (new other : List ℕ) (r s : Result ℕ BondFault) → Lists steps len pairs first second old new r → Lists steps len pairs first second old other s → (other ≡ new) × (s ≡ r)
  once new other (Ok m) (Ok n) a b = let z = told_once new other (Ok m) (Ok n) a.1 b.1 in (z.0, ap outer z.1)
  once new other (Ok m) (Err (fault.Void v)) a b = absurd (void_open steps len v b.0 a.0)
  once new other (Ok m) (Err (fault.List f)) a b = let z = told_once new other (Ok m) (Err f) a.1 b.1 in (z.0, ap outer z.1)
  once new other (Err (fault.Void v)) (Ok n) a b = absurd (void_open steps len v a.0 b.0)
  once new other (Err (fault.Void v)) (Err (fault.Void w)) a b = (b.1 ∙ sym a.1, ap (λ x. Err (fault.Void x)) (void_same steps len w v b.0 a.0))
  once new other (Err (fault.Void v)) (Err (fault.List f)) a b = absurd (void_open steps len v a.0 b.0)
  once new other (Err (fault.List f)) (Ok n) a b = let z = told_once new other (Err f) (Ok n) a.1 b.1 in (z.0, ap outer z.1)
  once new other (Err (fault.List f)) (Err (fault.Void v)) a b = absurd (void_open steps len v b.0 a.0)
  once new other (Err (fault.List f)) (Err (fault.List h)) a b = let z = told_once new other (Err f) (Err h) a.1 b.1 in (z.0, ap outer z.1)

  pub only_lists : (new : List ℕ) (r : Result ℕ BondFault) → Lists steps len pairs first second old new r → OnlyLists steps len pairs first second old new r
  unfolding OnlyLists
  only_lists new r a other s b = once new other r s a b
