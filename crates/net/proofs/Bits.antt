-- The points of the two halves of a set
use Rattle.std.proofs.Common.{◌≡◌, ℕ, ◌+◌, ◌-◌, ◌/◌, ◌%◌, ◌^◌, ◌<◌, eqb, ap, ◌∙◌, arith, shr-shr}
use Rattle.std.proofs.lemmas.Nat.{field_of, mod-pow-add}
use Rattle.flow.specs.Bits.{bit}

-- the low n points of a set
pub bit_low : (n g p : ℕ) → p < n → bit (g % 2 ^ n) p ≡ bit g p
unfolding bit
bit_low n g p l =
    let j = n - p - 1 in
    let e : n ≡ j + 1 + p = omega arith in
    let h = mod-pow-add (g / 2 ^ p) j 1 in
    let k : g % 2 ^ n / 2 ^ p ≡ (g / 2 ^ p) % 2 ^ (j + 1) = ap (λ m. g % 2 ^ m / 2 ^ p) e ∙ field_of g (j + 1) p in
    ap (λ m. eqb m 1) (omega (arith, k, h))

-- its points from n on
pub bit_high : (n g p : ℕ) → bit (g / 2 ^ n) p ≡ bit g (n + p)
unfolding bit
bit_high n g p = ap (λ m. eqb (m % 2) 1) (shr-shr g n p)
