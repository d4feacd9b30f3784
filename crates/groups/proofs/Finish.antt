-- What the answers of a list rest on
use Rattle.std.proofs.Common.{◌≡◌, ℕ, ◌<◌, ◌≤◌, Bool, List, ◌++◌, length, get_or, take, drop, Ok, Err, Result, sym, refl, ap, ◌∙◌, arith, length-take}
use Rattle.std.specs.Prelude.{Contains}
use Rattle.std.proofs.lemmas.List.{length-take-le, get_or_default, take-append-drop}
use Rattle.std.proofs.lemmas.List.Elements.{All-contains}
use Rattle.std.proofs.lemmas.List.Sorted.{All-permutation, Contains-permutation}
use Rattle.groups.specs.declared.faults.ListFault.{ListFault}
use Rattle.groups.specs.declared.faults.ListFault.TheVariants.{TooMany, TooShort}
use Rattle.groups.specs.declared.marks.Marks.{Marks}
use Rattle.groups.specs.declared.rows.Rows.{Rows}
use Rattle.groups.specs.Groups.{Listed}
use Rattle.groups.specs.Listings.{Listing, OneListing}
use Rattle.groups.specs.Rows.{held, Lawful}
use Rattle.groups.specs.Found.{Many, Whole}
use Rattle.groups.specs.Sorting.{Sorted, Written}
use Rattle.groups.specs.Told.{Answer, Told, OnlyTold}
use Rattle.groups.proofs.Order.{clash}
use Rattle.groups.proofs.Listings.{one_listing}
use Rattle.groups.proofs.Apart.{no_more}
use Rattle.groups.proofs.Exists.{contains_at, a_listing}

module _ (rows : Rows) (marks : Marks) (old : List ℕ) where
  abbrev pairs : ℕ → ℕ → Bool
  pairs = held rows.bits

  abbrev first : ℕ
  first = marks.first

  abbrev second : ℕ
  second = marks.second

  lawful : Lawful pairs
  lawful = rows.lawful

  -- a listing has all that is listed, and nothing else
  has : (xs : List ℕ) → Listing pairs first second xs → (g : ℕ) → Listed pairs first second g → Contains xs g
  has xs l g h = let (i, il, ie) = l.whole g h in (i, il, get_or_default xs i g 0 il ∙ ie)

  pub told_many : Many rows marks → Told pairs first second old old (Err TooMany)
  told_many (ys, long, sound, apart) =
      let (xs, l) = a_listing pairs lawful first second in
      let more = no_more ys xs apart (λ g c. has xs l g (All-contains (Listed pairs first second) ys g sound c)) in
      (xs, l, (omega arith, refl))

  module _ (found : List ℕ) (whole : Whole rows marks found) where
    abbrev n : ℕ
    n = length found

    -- a listing has as many groups as were found
    long : (xs : List ℕ) → Listing pairs first second xs → length xs ≡ n
    long xs l =
        let a = no_more xs found (λ i j d h b e. clash (get_or xs i d) (get_or xs j d) e
        (rw (get_or_default xs i d 0 (omega arith), get_or_default xs j d 0 b) (l.ascends i j h b)))
        (λ g c. whole.whole g (let (i, il, ie) = contains_at xs g c in rw ie at (l.sound i il))) in
        let b = no_more found xs whole.apart (λ g c. has xs l g (All-contains (Listed pairs first second) found g whole.sound c)) in
        omega arith

    told_short : length old < n → Told pairs first second old old (Err TooShort)
    told_short s =
        let (xs, l) = a_listing pairs lawful first second in
        let e = long xs l in
        let few = whole.few in
        (xs, l, (omega arith, omega arith, refl))

    told_listed : (new : List ℕ) → n ≤ length old → length new ≡ length old → Sorted found old new → Told pairs first second old new (Ok n)
    told_listed new room len s =
        let front = take n new in
        let e : length front ≡ n = length-take-le n new (omega arith) in (
          front,
          record {
            ascends = λ i j l b. s.ascends i j 0 l b;
            sound = λ i l. All-permutation (Listed pairs first second) found front s.same whole.sound i 0 l;
            whole = λ g l. contains_at front g (Contains-permutation found front g s.same (whole.whole g l));
          },
          (sym e, whole.few, refl, s.rest, len),
        )

    pub told_written : (new : List ℕ) (r : Result ℕ ListFault) → Written found old new r → Told pairs first second old new r
    told_written new (Ok m) (e, room, sorted, len) = rw e (told_listed new room len sorted)
    told_written new (Err TooMany) none = absurd none
    told_written new (Err TooShort) (short, same) = rw same (told_short short)

-- ---- one listing, and one result

pub there_is_one : (pairs : ℕ → ℕ → Bool) → Lawful pairs → (first second : ℕ) → OneListing pairs first second
there_is_one pairs lawful first second =
    let (xs, l) = a_listing pairs lawful first second in
    record { groups = xs; listing = l; only = λ ys k. one_listing pairs first second ys xs k l }

one_answer : (groups old a b : List ℕ) (r s : Result ℕ ListFault) → Answer groups old a r → Answer groups old b s → (a ≡ b) × (r ≡ s)
one_answer groups old a b (Ok m) (Ok n) (m-is, _, ta, da, _) (n-is, _, tb, db, _) =
    let e : m ≡ n = m-is ∙ sym n-is in
    let front : take m a ≡ take m b = ta ∙ sym tb ∙ ap (λ k. take k b) (sym e) in
    let back : drop m a ≡ drop m b = da ∙ ap (λ k. drop k old) e ∙ sym db ∙ ap (λ k. drop k b) (sym e) in
    (sym (take-append-drop m a) ∙ ap (λ x. x ++ drop m a) front ∙ ap (λ x. take m b ++ x) back ∙ take-append-drop m b, ap Ok e)
one_answer groups old a b (Ok m) (Err TooMany) (m-is, few, _, _, _) (many, _) = absurd (omega arith)
one_answer groups old a b (Ok m) (Err TooShort) (m-is, _, ta, _, len) (_, short, _) = absurd (omega (arith, ap length ta, length-take m a))
one_answer groups old a b (Err TooMany) (Ok n) (many, _) (n-is, few, _, _, _) = absurd (omega arith)
one_answer groups old a b (Err TooMany) (Err TooMany) (_, p) (_, q) = (p ∙ sym q, refl)
one_answer groups old a b (Err TooMany) (Err TooShort) (many, _) (few, _, _) = absurd (omega arith)
one_answer groups old a b (Err TooShort) (Ok n) (_, short, _) (n-is, _, tb, _, len) = absurd (omega (arith, ap length tb, length-take n b))
one_answer groups old a b (Err TooShort) (Err TooMany) (few, _, _) (many, _) = absurd (omega arith)
one_answer groups old a b (Err TooShort) (Err TooShort) (_, _, p) (_, _, q) = (p ∙ sym q, refl)

pub only_told : (pairs : ℕ → ℕ → Bool) (first second : ℕ) (old new : List ℕ) (r : Result ℕ ListFault) → Told pairs first second old new r → OnlyTold pairs first second old new r
unfolding OnlyTold
only_told pairs first second old new r (xs, l, a) other s (ys, k, b) =
    one_answer xs old other new s r (rw (one_listing pairs first second ys xs k l) at b) a
