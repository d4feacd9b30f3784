-- A row is read one point after another
use Rattle.std.proofs.Common.{◌≡◌, ℕ, ◌+◌, ◌^◌, ◌<◌, ◌≤◌, Bool, true, false, List, get_or, replicate, sym, refl, ⊎_elim, arith}
use lib.Bits.{bit_or}
use Rattle.std.proofs.lemmas.List.{get_or_past, get_or-replicate, length-replicate}
use Rattle.std.proofs.lemmas.Bool.{cases_eq, cases_lt, both_ways}
use Rattle.groups.specs.Groups.{In}
use Rattle.groups.specs.Rows.{Row, held}
use Rattle.groups.proofs.RowBits.{held_row}
use Rattle.groups.proofs.Sets.{in_or_l, in_or_r, or_in, in_one, one_in, empty}

-- the points of the row are those below n that p is paired with
pub record Reading (pairs : ℕ → ℕ → Bool) (p row n : ℕ) : Type 0 where
  pub to : (q : ℕ) → q < n → pairs p q ≡ true → In row q
  pub from : (q : ℕ) → In row q → pairs p q ≡ true

module _ (pairs : ℕ → ℕ → Bool) (p : ℕ) where
  pub reading_start : Reading pairs p 0 0
  reading_start = record { to = λ q l. absurd (omega arith); from = λ q i. absurd (empty q i) }

  pub reading_yes : (row n : ℕ) → Reading pairs p row n → pairs p n ≡ true → Reading pairs p (bit_or row (2 ^ n)) (n + 1)
  reading_yes row n h t = record {
    to = λ q l e. ⊎_elim (λ s. rw s (in_or_r row (2 ^ n) n (in_one n))) (λ s. in_or_l row (2 ^ n) q (h.to q (omega arith) e)) (cases_eq q n);
    from = λ q i. ⊎_elim (h.from q) (λ o. rw (← one_in n q o) t) (or_in row (2 ^ n) q i);
  }

  pub reading_no : (row n : ℕ) → Reading pairs p row n → pairs p n ≡ false → Reading pairs p row (n + 1)
  reading_no row n h t = record {
    to = λ q l e. ⊎_elim (λ s. absurd (both_ways (pairs p n) t (rw (← s) e))) (λ s. h.to q (omega arith) e) (cases_eq q n);
    from = h.from;
  }

  pub reading_end : (row n : ℕ) → ((q : ℕ) → pairs p q ≡ true → q < n) → Reading pairs p row n → Row pairs p row
  reading_end row n b h = record { to = λ q e. h.to q (b q e) e; from = h.from }

bool_same : (a b : Bool) → (a ≡ true → b ≡ true) → (b ≡ true → a ≡ true) → a ≡ b
bool_same true b f g = sym (f refl)
bool_same false true f g = g refl
bool_same false false f g = refl

row_none : (pairs : ℕ → ℕ → Bool) (p : ℕ) → ((q : ℕ) → pairs p q ≡ true → ⊥) → Row pairs p 0
row_none pairs p never = record { to = λ q e. absurd (never q e); from = λ q i. absurd (empty q i) }

-- the rows of the points below n, and none of any other, where only those are paired
pub rows_read : (pairs : ℕ → ℕ → Bool) (rows : List ℕ) (n : ℕ) → ((p : ℕ) → p < n → Row pairs p (get_or rows p 0)) → ((p : ℕ) → n ≤ p → get_or rows p 0 ≡ 0)
    → ((p q : ℕ) → pairs p q ≡ true → p < n) → held rows ≡ pairs
rows_read pairs rows n read rest lacks =
    let row : (p : ℕ) → Row pairs p (get_or rows p 0) = λ p. ⊎_elim (read p) (λ l. rw (rest p l) (row_none pairs p (λ q t. let b = lacks p q t in omega arith))) (cases_lt p n) in
    λ i p q. bool_same (held rows p q) (pairs p q) (λ t. (row p).from q ((held_row rows p).to q t)) (λ t. (held_row rows p).from q ((row p).to q t)) i

pub zeros : (n k : ℕ) → get_or {A = ℕ} (replicate n 0) k 0 ≡ 0
zeros n k = ⊎_elim (get_or-replicate {A = ℕ} n k 0 0) (λ l. get_or_past {X = ℕ} (replicate n 0) k 0 (rw (length-replicate {A = ℕ} n 0) l)) (cases_lt k n)
