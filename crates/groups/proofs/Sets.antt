-- Sets of points as numbers: what `&`, `|` and `1 << p` are to `In`
use Rattle.std.proofs.Common.{◌≡◌, ℕ, zero, suc, ◌+◌, ◌-◌, ◌*◌, ◌/◌, ◌%◌, ◌^◌, ◌<◌, min, max, ◌⊎◌, sym, refl, ap, ◌∙◌, inl, inr, ⊎_elim, one-mul, pow-suc, div-one, arith, pow_pos, pow_mono, pow-add, shr-shr}
use native.Mathlib.Nat.{div-eq_of_lt}
use lib.Arith.{bin_ind}
use lib.Bits.{bit_and, bit_or, and_step, or_step, and_shr, or_shr}
use lib.Pow.{pow-lt, shl-shr}
use Rattle.std.proofs.lemmas.Bool.{cases_order, cases_eq, cases_lt}
use Rattle.groups.specs.Groups.{In, Touches}

bit_and_lem : (a b p : ℕ) → bit_and a b / 2 ^ p % 2 ≡ min (a / 2 ^ p % 2) (b / 2 ^ p % 2)
bit_and_lem a b p = rw (and_shr a b p) (omega (arith, and_step (a / 2 ^ p) (b / 2 ^ p)))

bit_or_lem : (a b p : ℕ) → bit_or a b / 2 ^ p % 2 ≡ max (a / 2 ^ p % 2) (b / 2 ^ p % 2)
bit_or_lem a b p = rw (or_shr a b p) (omega (arith, or_step (a / 2 ^ p) (b / 2 ^ p)))

pub in_dec : (g p : ℕ) → In g p ⊎ (In g p → ⊥)
unfolding In
in_dec g p = cases_eq (g / 2 ^ p % 2) 1

pub in_and : (a b p : ℕ) → In a p → In b p → In (bit_and a b) p
unfolding In
in_and a b p h k = omega (arith, bit_and_lem a b p)

pub and_in : (a b p : ℕ) → In (bit_and a b) p → In a p × In b p
unfolding In
and_in a b p h = (omega (arith, bit_and_lem a b p), omega (arith, bit_and_lem a b p))

pub in_or_l : (a b p : ℕ) → In a p → In (bit_or a b) p
unfolding In
in_or_l a b p h = omega (arith, bit_or_lem a b p)

pub in_or_r : (a b p : ℕ) → In b p → In (bit_or a b) p
unfolding In
in_or_r a b p h = omega (arith, bit_or_lem a b p)

pub or_in : (a b p : ℕ) → In (bit_or a b) p → In a p ⊎ In b p
unfolding In
or_in a b p h = ⊎_elim inl (λ n. inr (omega (arith, bit_or_lem a b p))) (cases_eq (a / 2 ^ p % 2) 1)

-- the set of one point
pub in_one : (p : ℕ) → In (2 ^ p) p
unfolding In
in_one p = let e : 2 ^ p / 2 ^ p ≡ 1 = rw one-mul at (shl-shr 1 p) in omega (arith, e)

pub one_in : (p q : ℕ) → In (2 ^ p) q → p ≡ q
unfolding In
one_in p q h =
    ⊎_elim (λ e. e) (⊎_elim
    (λ l. let m = pow-lt l in let z : 2 ^ p / 2 ^ q ≡ 0 = div-eq_of_lt m in absurd (omega (arith, z)))
    (λ l. let k : 2 ^ p ≡ 2 ^ (p - q - 1) * 2 * 2 ^ q = raised l in
    let z : 2 ^ p / 2 ^ q ≡ 2 ^ (p - q - 1) * 2 = ap (λ x. x / 2 ^ q) k ∙ shl-shr (2 ^ (p - q - 1) * 2) q in
    absurd (omega (arith, z))))
    (cases_order p q)
  where
    raised : q < p → 2 ^ p ≡ 2 ^ (p - q - 1) * 2 * 2 ^ q
    raised l = let e : p ≡ suc (p - q - 1) + q = omega arith in
        ap (λ x. 2 ^ x) e ∙ pow-add 2 (suc (p - q - 1)) q ∙ ap (λ x. x * 2 ^ q) (pow-suc 2 (p - q - 1))

-- sets with the same points are one number
low : (g : ℕ) → g / 2 ^ 0 ≡ g
low g = div-one g

half : (g p : ℕ) → g / 2 / 2 ^ p ≡ g / 2 ^ (1 + p)
half g p = shr-shr g 1 p

pub empty : (p : ℕ) → In 0 p → ⊥
unfolding In
empty p i = let z : 0 / 2 ^ p ≡ 0 = div-eq_of_lt (pow_pos p) in omega (arith, z)

pub none : (g : ℕ) → ((p : ℕ) → In g p → ⊥) → g ≡ 0
unfolding In
none = bin_ind (λ g. ((p : ℕ) → In g p → ⊥) → g ≡ 0) (λ _. refl)
    (λ g ih out. let h : g / 2 ≡ 0 = ih (λ p i. out (1 + p) (rw (← half g p) i)) in
    let l : (g % 2 ≡ 1) → ⊥ = λ e. out 0 (rw low e) in omega arith)

pub same_points : (g h : ℕ) → ((p : ℕ) → In g p → In h p) → ((p : ℕ) → In h p → In g p) → g ≡ h
unfolding In
same_points = bin_ind (λ g. (h : ℕ) → ((p : ℕ) → In g p → In h p) → ((p : ℕ) → In h p → In g p) → g ≡ h)
    (λ h to from. sym (none h (λ p i. empty p (from p i))))
    (λ g ih h to from.
    let e : g / 2 ≡ h / 2 = ih (h / 2) (λ p i. rw (half h p) (to (1 + p) (rw (← half g p) i))) (λ p i. rw (half g p) (from (1 + p) (rw (← half h p) i))) in
    let t : g % 2 ≡ 1 → h % 2 ≡ 1 = λ i. rw low at (to 0 (rw low i)) in
    let f : h % 2 ≡ 1 → g % 2 ≡ 1 = λ i. rw low at (from 0 (rw low i)) in
    let m : g % 2 ≡ h % 2 = ⊎_elim (λ i. i ∙ sym (t i)) (λ n. ⊎_elim (λ j. absurd (n (f j))) (λ k. omega arith) (cases_eq (h % 2) 1)) (cases_eq (g % 2) 1) in
    omega arith)

-- a set with no point is 0, and any other has one
pub some_point : (g : ℕ) → (g ≡ 0 → ⊥) → (p : ℕ) × In g p
unfolding In
some_point = bin_ind (λ g. (g ≡ 0 → ⊥) → (p : ℕ) × In g p) (λ n. absurd (n refl))
    (λ g ih n. ⊎_elim (λ e. (0, rw low e))
    (λ e. let (p, i) = ih (λ z. n (omega arith)) in (1 + p, rw (← half g p) i))
    (cases_eq (g % 2) 1))

-- the test `a & b != 0`
pub touches : (a b : ℕ) → (bit_and a b ≡ 0 → ⊥) → Touches a b
touches a b n = let (p, i) = some_point (bit_and a b) n in (p, (and_in a b p i).0, (and_in a b p i).1)

pub apart : (a b : ℕ) → bit_and a b ≡ 0 → Touches a b → ⊥
apart a b z (p, i, j) = empty p (rw (← z) (in_and a b p i j))

-- the test `a & b == a`
pub within : (a b : ℕ) → bit_and a b ≡ a → (p : ℕ) → In a p → In b p
within a b e p i = (and_in a b p (rw e i)).1

pub from_within : (a b : ℕ) → ((p : ℕ) → In a p → In b p) → bit_and a b ≡ a
from_within a b w = same_points (bit_and a b) a (λ p i. (and_in a b p i).0) (λ p i. in_and a b p i (w p i))

pub in_half : (g p : ℕ) → In (g / 2) p → In g (1 + p)
unfolding In
in_half g p i = rw (← half g p) i

-- a set of points below n is a number below 2 ^ n
pub small : (n g : ℕ) → ((p : ℕ) → In g p → p < n) → g < 2 ^ n
small zero g h = let e = none g (λ p i. let l = h p i in omega arith) in omega arith
small (suc n) g h =
    let l = small n (g / 2) (λ p i. let b = h (1 + p) (in_half g p i) in omega arith) in
    let e = pow-suc 2 n in omega arith

pub in_small : (n g p : ℕ) → g < 2 ^ n → In g p → p < n
unfolding In
in_small n g p l i = ⊎_elim (λ b. b) (λ b. let m = pow_mono b in let z : g / 2 ^ p ≡ 0 = div-eq_of_lt (omega arith) in absurd (omega (arith, z))) (cases_lt p n)
