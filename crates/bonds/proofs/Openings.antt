-- The bond of a book that is open, and of one that is void
use Rattle.std.proofs.Common.{◌≡◌, ℕ, Bool, true, false, ◌&&◌, leb, sym}
use Rattle.std.proofs.lemmas.Bool.{and_from, and_parts, le-leb, leb-true}
use Rattle.book.specs.Jobs.{Opens}
use Rattle.flow.proofs.Bits.{fails}
use Rattle.bonds.specs.Pairs.{opens, of_book}

opens_true : (steps len : ℕ) → Opens steps len → opens steps len ≡ true
opens_true steps len o =
    and_from _ _ (and_from _ _ (le-leb 1 steps o.0) (le-leb steps 32 o.1)) (and_from _ _ (le-leb 2 len o.2) (le-leb len 16384 o.3))

from_open : (steps len : ℕ) → opens steps len ≡ true → Opens steps len
from_open steps len e =
    let a = and_parts (leb 1 steps && leb steps 32) (leb 2 len && leb len 16384) e in
    let b = and_parts (leb 1 steps) (leb steps 32) a.0 in
    let c = and_parts (leb 2 len) (leb len 16384) a.1 in
    (leb-true 1 steps b.0, leb-true steps 32 b.1, leb-true 2 len c.0, leb-true len 16384 c.1)

pub of_open_lem : (steps len : ℕ) (pairs : ℕ → ℕ → Bool) → Opens steps len → pairs ≡ of_book steps len pairs
of_open_lem steps len pairs o = let e = sym (opens_true steps len o) in λ i p q. e i && pairs p q

pub of_void_lem : (steps len : ℕ) (pairs : ℕ → ℕ → Bool) → (Opens steps len → ⊥) → (λ p q. false) ≡ of_book steps len pairs
of_void_lem steps len pairs v = let e = sym (fails (opens steps len) (λ t. v (from_open steps len t))) in λ i p q. e i && pairs p q
