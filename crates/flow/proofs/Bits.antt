-- Laws of sets as numbers
use Rattle.std.proofs.Common.{◌≡◌, ℕ, zero, suc, ◌+◌, ◌-◌, ◌*◌, ◌/◌, ◌%◌, ◌^◌, ◌<◌, ◌≤◌, Bool, true, false, not, ◌&&◌, ◌||◌, eqb, sym, refl, ap, ◌∙◌, ap₂, ⊎_elim, pow-suc, div-one, arith}
use native.Mathlib.Nat.{pow-succ', div-div-eq-div-mul}
use lib.Bits.{bit_and, bit_or}
use Rattle.std.proofs.lemmas.Bool.{eqb-true, eq-eqb, ne_eqb, cases_eq, and_from, and_parts, or_left, or_right, or_cases}
use Rattle.groups.specs.Groups.{In}
use Rattle.groups.proofs.Sets.{in_and, and_in, in_or_l, in_or_r, or_in, in_one, one_in, empty, in_small, same_points}
use Rattle.flow.specs.Bits.{bit}

pub bit_in : (g p : ℕ) → bit g p ≡ true → In g p
unfolding bit In
bit_in g p e = eqb-true (g / 2 ^ p % 2) 1 e

pub in_bit : (g p : ℕ) → In g p → bit g p ≡ true
unfolding bit In
in_bit g p e = eq-eqb (g / 2 ^ p % 2) 1 e

-- two tests that pass together are equal
pub alike : (x y : Bool) → (x ≡ true → y ≡ true) → (y ≡ true → x ≡ true) → x ≡ y
alike true y f g = sym (f refl)
alike false true f g = g refl
alike false false f g = refl

pub bit_and_lem : (a b p : ℕ) → bit (bit_and a b) p ≡ (bit a p && bit b p)
bit_and_lem a b p = alike _ _
    (λ e. let i = and_in a b p (bit_in (bit_and a b) p e) in and_from _ _ (in_bit a p i.0) (in_bit b p i.1))
    (λ e. let i = and_parts (bit a p) (bit b p) e in in_bit _ p (in_and a b p (bit_in a p i.0) (bit_in b p i.1)))

pub bit_or_lem : (a b p : ℕ) → bit (bit_or a b) p ≡ (bit a p || bit b p)
bit_or_lem a b p = alike _ _
    (λ e. ⊎_elim (λ i. or_left (bit a p) _ (in_bit a p i)) (λ i. or_right (bit a p) _ (in_bit b p i)) (or_in a b p (bit_in (bit_or a b) p e)))
    (λ e. ⊎_elim (λ i. in_bit _ p (in_or_l a b p (bit_in a p i))) (λ i. in_bit _ p (in_or_r a b p (bit_in b p i))) (or_cases (bit a p) (bit b p) e))

pub bit_one : (q p : ℕ) → bit (2 ^ q) p ≡ eqb q p
bit_one q p = alike _ _
    (λ e. eq-eqb q p (one_in q p (bit_in (2 ^ q) p e)))
    (λ e. subst_one (eqb-true q p e))
  where
    subst_one : q ≡ p → bit (2 ^ q) p ≡ true
    subst_one e = ap (λ x. bit (2 ^ x) p) e ∙ in_bit (2 ^ p) p (in_one p)

-- a test that does not pass fails
pub fails : (x : Bool) → (x ≡ true → ⊥) → x ≡ false
fails true f = absurd (f refl)
fails false f = refl

pub bit_none : (p : ℕ) → bit 0 p ≡ false
bit_none p = fails (bit 0 p) (λ e. empty p (bit_in 0 p e))

pub bit_small : (n g p : ℕ) → g < 2 ^ n → n ≤ p → bit g p ≡ false
bit_small n g p l k = fails (bit g p) (λ e. let z = in_small n g p l (bit_in g p e) in omega arith)

-- sets of points below n that have the same points below n are one number
pub same_low : (n g h : ℕ) → g < 2 ^ n → h < 2 ^ n → ((p : ℕ) → p < n → bit g p ≡ bit h p) → g ≡ h
same_low n g h lg lh e =
    same_points g h (λ p i. bit_in h p (sym (e p (in_small n g p lg i)) ∙ in_bit g p i)) (λ p i. bit_in g p (e p (in_small n h p lh i) ∙ in_bit h p i))

half_pow : (g p : ℕ) → g / 2 ^ suc p ≡ g / 2 / 2 ^ p
half_pow g p = ap (λ x. g / x) (pow-succ' 2 p) ∙ sym (div-div-eq-div-mul g 2 (2 ^ p))

-- the digits of a number and of its complement
other_digit : (n p x : ℕ) → x < 2 ^ n → p < n → (2 ^ n - 1 - x) / 2 ^ p % 2 + x / 2 ^ p % 2 ≡ 1
other_digit zero p x l k = absurd (omega arith)
other_digit (suc n) zero x l k =
    let l' : x < 2 ^ n * 2 = rw pow-suc at l in
    let r : (2 ^ n * 2 - 1 - x) % 2 + x % 2 ≡ 1 = omega arith in
    ap₂ (λ a b. a % 2 + b % 2) (div-one (2 ^ suc n - 1 - x)) (div-one x) ∙ rw (pow-suc 2 n) r
other_digit (suc n) (suc p) x l k =
    let l' : x < 2 ^ n * 2 = rw pow-suc at l in
    let e : (2 ^ n * 2 - 1 - x) / 2 ≡ 2 ^ n - 1 - x / 2 = omega arith in
    let e' : (2 ^ suc n - 1 - x) / 2 ≡ 2 ^ n - 1 - x / 2 = rw (pow-suc 2 n) e in
    ap₂ (λ a b. a % 2 + b % 2) (half_pow (2 ^ suc n - 1 - x) p ∙ ap (λ a. a / 2 ^ p) e') (half_pow x p)
    ∙ other_digit n p (x / 2) (omega arith) (omega arith)

-- the complement has what the set lacks
pub bit_other : (n x p : ℕ) → x < 2 ^ n → p < n → bit (2 ^ n - 1 - x) p ≡ not (bit x p)
unfolding bit
bit_other n x p l k =
    let d = other_digit n p x l k in
    ⊎_elim
    (λ e. ne_eqb _ 1 (λ z. omega arith) ∙ ap not (sym (eq-eqb _ 1 e)))
    (λ e. eq-eqb _ 1 (omega arith) ∙ ap not (sym (ne_eqb _ 1 e)))
    (cases_eq (x / 2 ^ p % 2) 1)
