-- Two bonds have the same listing exactly when the groups that touch both marks are groups of both
use Rattle.std.proofs.Common.{◌≡◌, ℕ, zero, suc, ◌^◌, ◌<◌, Bool, true, ◌⊎◌, List, get_or, ◌∙◌, inl, inr, ⊎_elim, add-one, arith}
use lib.Bits.{bit_and, bit_or}
use Rattle.std.proofs.lemmas.Bool.{cases_Bool, cases_eq, both_ways}
use Rattle.groups.specs.Groups.{In, Paired, Fits, Touches, Largest, Listed}
use Rattle.groups.specs.Listings.{Listing}
use Rattle.groups.specs.Rows.{Lawful, Row}
use Rattle.groups.proofs.Sets.{empty, in_or_l, in_or_r, or_in, in_one, one_in}
use Rattle.groups.proofs.Grow.{Growing, grow_start, grow_add, grow_skip, grow_end}

-- one more point, or another
pub or_one : (g x p : ℕ) → In (bit_or g (2 ^ x)) p → In g p ⊎ (x ≡ p)
or_one g x p i = ⊎_elim inl (λ o. inr (one_in x p o)) (or_in g (2 ^ x) p i)

pub has_one : (g x : ℕ) → In (bit_or g (2 ^ x)) x
has_one g x = in_or_r g (2 ^ x) x (in_one x)

module _ (pairs : ℕ → ℕ → Bool) (lawful : Lawful pairs) where
  -- a group and a point that fits it
  pub with_point : (g x : ℕ) → Paired pairs g → Fits pairs g x → Paired pairs (bit_or g (2 ^ x))
  with_point g x h f p q i j = both (or_one g x p i) (or_one g x q j)
    where
      both : In g p ⊎ (x ≡ p) → In g q ⊎ (x ≡ q) → pairs p q ≡ true
      both (inl a) (inl b) = h p q a b
      both (inl a) (inr e) = rw (← e) (f.1 p a)
      both (inr d) (inl b) = rw (← d) (lawful.even x q ∙ f.1 q b)
      both (inr d) (inr e) = rw (← d) (rw (← e) f.0)

  -- the points below n that x is paired with, as a set
  row_below : (x n : ℕ) → (row : ℕ) × ((q : ℕ) → q < n → pairs x q ≡ true → In row q) × ((q : ℕ) → In row q → pairs x q ≡ true)
  row_below x zero = (0, λ q l e. absurd (omega arith), λ q i. absurd (empty q i))
  row_below x (suc n) =
      let (row, to, from) = row_below x n in
      ⊎_elim
      (λ t. (bit_or row (2 ^ n), λ q l e. ⊎_elim (λ d. rw d (has_one row n)) (λ d. in_or_l row (2 ^ n) q (to q (omega arith) e)) (cases_eq q n), λ q i. ⊎_elim (from q) (λ d. rw (← d) t) (or_one row n q i)))
      (λ f. (row, λ q l e. ⊎_elim (λ d. absurd (both_ways (pairs x n) f (rw d at e))) (λ d. to q (omega arith) e) (cases_eq q n), from))
      (cases_Bool (pairs x n))

  row_of : (x : ℕ) → (row : ℕ) × Row pairs x row
  row_of x = let (row, to, from) = row_below x 64 in (row, record { to = λ q e. to q (lawful.below q x (lawful.even q x ∙ e)) e; from = from })

  grow : (s : ℕ) → Paired pairs s → (n : ℕ) → (d : ℕ) × Growing pairs s d n
  grow s h zero = (s, grow_start pairs lawful s h)
  grow s h (suc n) =
      let (d, g) = grow s h n in
      let (row, r) = row_of n in
      ⊎_elim (λ e. (bit_or d (2 ^ n), rw add-one at (grow_add pairs lawful s d n row r g e))) (λ e. (d, rw add-one at (grow_skip pairs lawful s d n row r g e)))
      (cases_eq (bit_and (bit_or d (2 ^ n)) row) (bit_or d (2 ^ n)))

  -- every group is inside a largest one
  around : (s : ℕ) → ((p : ℕ) × In s p) → Paired pairs s → (d : ℕ) × Largest pairs d × ((p : ℕ) → In s p → In d p)
  around s some h = let (d, g) = grow s h 64 in (d, grow_end pairs lawful s d some g, g.holds)

module _ (first second : ℕ) where
  -- the groups of the one bond that touch both marks are groups of the other
  abbrev pub Moves : (pairs others : ℕ → ℕ → Bool) → Type 0
  Moves pairs others = (g : ℕ) → Touches g first → Touches g second → Paired pairs g → Paired others g

  module _ (pairs others : ℕ → ℕ → Bool) (lawful : Lawful others) (there : Moves pairs others) (back : Moves others pairs) where
    pub listed_moves : (g : ℕ) → Listed pairs first second g → Listed others first second g
    listed_moves g l =
        let big = l.largest in
        let more : (m x : ℕ) → Touches g m → Touches (bit_or g (2 ^ x)) m = λ m x t. (t.0, in_or_l g (2 ^ x) t.0 t.1, t.2) in
        let paired = there g l.one l.two big.paired in
        record {
          largest = record {
            some = big.some;
            paired = paired;
            full = λ x f.
                let all = back (bit_or g (2 ^ x)) (more first x l.one) (more second x l.two) (with_point others lawful g x paired f) in
                big.full x (all x x (has_one g x) (has_one g x), λ p i. all p x (in_or_l g (2 ^ x) p i) (has_one g x));
          };
          one = l.one;
          two = l.two;
        }

  pub moved_listing : (pairs others : ℕ → ℕ → Bool) → Lawful pairs → Lawful others → Moves pairs others → Moves others pairs
      → (xs : List ℕ) → Listing pairs first second xs → Listing others first second xs
  moved_listing pairs others lawful lawful' there back xs a = record {
    ascends = a.ascends;
    sound = λ i l. listed_moves pairs others lawful' there back (get_or xs i 0) (a.sound i l);
    whole = λ g l. a.whole g (listed_moves others pairs lawful back there g l);
  }

  pub listing_moves : (pairs others : ℕ → ℕ → Bool) → Lawful pairs → (xs : List ℕ) → Listing pairs first second xs → Listing others first second xs → Moves pairs others
  listing_moves pairs others lawful xs a b g (p, i, j) (q, k, l) h =
      let (d, big, holds) = around pairs lawful g (p, i) h in
      let (n, nl, e) = a.whole d (record { largest = big; one = (p, holds p i, j); two = (q, holds q k, l) }) in
      let paired : Paired others d = (rw e at (b.sound n nl)).largest.paired in
      λ x y u v. paired x y (holds x u) (holds y v)
