-- Steps that are added to sets and to rows
use Rattle.std.proofs.Common.{◌≡◌, ℕ, ◌<◌, ◌≤◌, Bool, true, false, ◌&&◌, ◌||◌, eqb, List, length, get_or, set, MatchBool, sym, refl, ap, ◌∙◌, ⊎_elim, arith}
use mathlib.Core.Bool.{or-false}
use lib.Bits.{bit_or}
use Rattle.std.proofs.lemmas.List.{get_or-set_same, get_or-set_other, get_or_past}
use Rattle.std.proofs.lemmas.Bool.{cases_eq, cases_lt, eq-eqb, ne_eqb}
use Rattle.flow.specs.Bits.{bit, row}
use Rattle.flow.specs.Reading.{Added, Joined}
use Rattle.flow.proofs.Bits.{bit_none, bit_or_lem}

-- a test of s or of p is one where they are equal
pub moved : (f : ℕ → Bool) (s p : ℕ) → (f s && eqb s p) ≡ (f p && eqb s p)
moved f s p = ⊎_elim (λ e. ap (λ n. f n && eqb s p) e) (λ n. rw (ne_eqb s p n) (grind arith)) (cases_eq s p)

-- a step that is added where a test is true, and a set that is added to a row
pub when_added : (b : Bool) (old s new : ℕ) → MatchBool b (Added old s new) (new ≡ old) → (p : ℕ) → bit new p ≡ (bit old p || (b && eqb s p))
when_added true old s new h p = h p
when_added false old s new h p = ap (λ g. bit g p) h ∙ sym (or-false (bit old p))

pub when_joined : (c : Bool) (old : List ℕ) (s g : ℕ) (new : List ℕ) → MatchBool c (Joined old s g new) (new ≡ old) → (a b : ℕ) → row new a b ≡ (row old a b || (c && (eqb s a && bit g b)))
when_joined true old s g new h a b = h a b
when_joined false old s g new h a b = ap (λ rows. row rows a b) h ∙ sym (or-false (row old a b))

-- rows with a set added to one of them
pub row_set : (rows : List ℕ) (s g : ℕ) → s < length rows → (a b : ℕ) → row (set rows s (bit_or (get_or rows s 0) g)) a b ≡ (row rows a b || (eqb s a && bit g b))
row_set rows s g l a b =
    ⊎_elim
    (λ e. rw (← e, get_or-set_same rows s (bit_or (get_or rows s 0) g) 0 l, bit_or_lem (get_or rows s 0) g b, eq-eqb s s refl))
    (λ n. rw (get_or-set_other rows s a (bit_or (get_or rows s 0) g) 0 (λ e. n (sym e)), ne_eqb s a n, or-false (row rows a b)))
    (cases_eq s a)

-- past the last row
pub row_past : (rows : List ℕ) (a b : ℕ) → length rows ≤ a → row rows a b ≡ false
row_past rows a b l = rw (get_or_past rows a 0 l) (bit_none b)

-- a set with no steps, and rows of such sets
pub no_steps : (g : ℕ) → g ≡ 0 → (s : ℕ) → bit g s ≡ false
no_steps g e s = ap (λ n. bit n s) e ∙ bit_none s

pub no_rows : (rows : List ℕ) → length rows ≡ 32 → ((a : ℕ) → a < 32 → get_or rows a 0 ≡ 0) → (a b : ℕ) → row rows a b ≡ false
no_rows rows long each a b = ⊎_elim (λ l. no_steps (get_or rows a 0) (each a l) b) (λ l. row_past rows a b (omega arith)) (cases_lt a 32)
