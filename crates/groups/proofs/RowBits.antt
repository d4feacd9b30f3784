-- The bits of a row are the points that it pairs
use Rattle.std.proofs.Common.{◌≡◌, ℕ, ◌/◌, ◌%◌, ◌^◌, List, get_or}
use lib.Bits.{bit_and}
use Rattle.std.proofs.lemmas.Bool.{eqb-true, eq-eqb}
use Rattle.groups.specs.Groups.{In}
use Rattle.groups.specs.Rows.{held, Row, JoinsAll}
use Rattle.groups.proofs.Sets.{within, from_within}

pub held_row : (rows : List ℕ) (p : ℕ) → Row (held rows) p (get_or rows p 0)
unfolding held In
held_row rows p = record { to = λ q e. eqb-true (get_or rows p 0 / 2 ^ q % 2) 1 e; from = λ q e. eq-eqb (get_or rows p 0 / 2 ^ q % 2) 1 e }

-- the test `set & row == set`
pub joins_bits : (rows : List ℕ) (p g : ℕ) → JoinsAll (held rows) p g → bit_and g (get_or rows p 0) ≡ g
joins_bits rows p g h = from_within g (get_or rows p 0) (λ q i. (held_row rows p).to q (h q i))

pub bits_join : (rows : List ℕ) (p g : ℕ) → bit_and g (get_or rows p 0) ≡ g → JoinsAll (held rows) p g
bits_join rows p g e q i = (held_row rows p).from q (within g (get_or rows p 0) e q i)
