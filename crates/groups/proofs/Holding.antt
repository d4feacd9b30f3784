-- What is found gets one more group
use Rattle.std.proofs.Common.{◌≡◌, ℕ, eqb, false, ◌<◌, ◌≤◌, List, [], ◌∷◌, ◌++◌, length, get_or, ◌∙◌, ⊎_elim, arith}
use Rattle.std.specs.Prelude.{◌≢◌, Ok, Err, Result, MatchResult, All, Contains}
use Rattle.std.specs.Coded.{le_prop}
use Rattle.std.specs.List.{AllWithin}
use mathlib.Core.HLevel.{⊥_prop}
use Rattle.std.proofs.Math.Logic.{∥∥₁_elim}
use Rattle.std.proofs.lemmas.Bool.{eqb-false}
use Rattle.std.proofs.lemmas.List.{append_assoc, get_or_append_left, get_or_default, length_push, length-append}
use Rattle.std.proofs.lemmas.List.Elements.{All-push, Contains-append_left}
use Rattle.std.proofs.lemmas.List.Quantifiers.{all_pairs_push}
use Rattle.arrayvec.specs.ArrayVec.{ArrayVec}
use Rattle.groups.specs.declared.faults.ListFault.{ListFault}
use Rattle.groups.specs.declared.faults.ListFault.TheVariants.{TooMany}
use Rattle.groups.specs.declared.marks.Marks.{Marks}
use Rattle.groups.specs.declared.rows.Rows.{Rows}
use Rattle.groups.specs.declared.searching.Search.{Search}
use Rattle.groups.specs.Groups.{Inside, Touches, Largest}
use Rattle.groups.specs.Rows.{held}
use Rattle.groups.specs.Sorting.{Added, Apart}
use Rattle.groups.specs.Found.{Sought, Holds, Many}
use Rattle.groups.specs.Search.{Covers, IsCovered, Kept}
use Rattle.groups.proofs.Deciding.{if_listed}

-- whether a set is a listed group is decided, so what is merely so of a search is so
pub opened : (s : Search) → Holds s.rows s.marks s.found.items
opened s = record {
  few = ∥∥₁_elim s.holds le_prop (λ h. h.few);
  sound = λ k d l. ⊎_elim (λ y. y) (λ n. absurd (∥∥₁_elim s.holds ⊥_prop (λ h. n (h.sound k d l))))
      (if_listed (held s.rows.bits) s.rows.lawful s.marks.first s.marks.second (get_or s.found.items k d));
  apart = λ i j d l b e. ∥∥₁_elim s.holds ⊥_prop (λ h. h.apart i j d l b e);
}

pub kept_trans : (a b c : Search) → Kept a b → Kept b c → Kept a c
kept_trans a b c k l =
    let (xs, d) = k.found in
    let (ys, e) = l.found in
    record { rows = l.rows ∙ k.rows; marks = l.marks ∙ k.marks; found = (xs ++ ys, e ∙ rw d (append_assoc a.found.items xs ys)) }

module _ (a b : Search) (k : Kept a b) where
  pub kept_length : length a.found.items ≤ length b.found.items
  kept_length = let (xs, e) = k.found in rw e (omega (arith, length-append a.found.items xs))

  pub kept_has : (g : ℕ) → Contains a.found.items g → Contains b.found.items g
  kept_has g h = let (xs, e) = k.found in rw e (Contains-append_left a.found.items xs g h)

  pub kept_at : (i : ℕ) → i < length a.found.items → get_or b.found.items i 0 ≡ get_or a.found.items i 0
  kept_at i l = let (xs, e) = k.found in rw e (get_or_append_left a.found.items xs 0 i l)

  covers_kept : (s : ℕ) → Covers a s → Covers b s
  covers_kept s (i, g, l, at, c) = let (xs, e) = k.found in rw e (i, g, omega (arith, length-append a.found.items xs), get_or_append_left a.found.items xs g i l ∙ at, c)

  pub is_covered_kept : (s : ℕ) → IsCovered a s → IsCovered b s
  is_covered_kept s c x y = covers_kept s (c (rw k.marks at x) (rw k.marks at y))

-- the answer of a search for g among what is found
pub not_among : (found : List ℕ) (g : ℕ) → AllWithin (λ y. eqb y g ≡ false) found 0 (length found) → Contains found g → ⊥
not_among found g none (k, l, e) = eqb-false (get_or found k g) g (none k g (omega arith) l) e

pub sought : (rows : Rows) (marks : Marks) (s g : ℕ) → Largest (held rows.bits) g → Inside s g → Touches s marks.first × Touches s marks.second → Sought rows marks g
sought rows marks s g large inside (one, two) = record { largest = large; one = (one.0, inside one.0 one.1, one.2); two = (two.0, inside two.0 two.1, two.2) }

module _ (s : Search) (g : ℕ) (listed : Sought s.rows s.marks g) (fresh : Contains s.found.items g → ⊥) where
  abbrev old : List ℕ
  old = s.found.items

  sound : All (Sought s.rows s.marks) (old ++ g ∷ [])
  sound = All-push (Sought s.rows s.marks) old g (opened s).sound listed

  apart : Apart (old ++ g ∷ [])
  apart = all_pairs_push (λ x y. x ≢ y) old g (opened s).apart (λ k d l e. fresh (k, l, get_or_default old k g d l ∙ e))

  pub many : length old ≡ 256 → Many s.rows s.marks
  many e = (old ++ g ∷ [], omega (arith, length_push old g), sound, apart)

  -- whether there was room or not
  pub holds_more : {T : Type 0} (r : Result T ListFault) (new : ArrayVec ℕ)
      → MatchResult r (λ _. Added old new.items g) (λ e. (e ≡ TooMany) × (length old ≡ 256) × (new ≡ s.found)) → ∥ Holds s.rows s.marks new.items ∥₁
  holds_more (Ok x) new (room, e) =
      let h : Holds s.rows s.marks (old ++ g ∷ []) = record { few = omega (arith, length_push old g); sound = sound; apart = apart } in
      rw e (∣ h ∣₁)
  holds_more (Err d) new (_, _, e) = rw e s.holds
