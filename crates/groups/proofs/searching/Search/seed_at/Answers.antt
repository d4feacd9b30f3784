use Rattle.std.proofs.Common.{◌≡◌, ℕ, ◌*◌, ◌%◌, ◌^◌, ◌<◌, ap₂}
use lib.Bits.{bit_or}
use Rattle.std.proofs.lemmas.Nat.{one_shl}
use Rattle.groups.specs.Search.{Covered, two}
use Rattle.groups.proofs.Holding.{kept_trans}
use Rattle.groups.proofs.Turns.{two_paired, seeded_at, seeded_skip}
use Rattle.groups.proofs.searching.Search.seed_at.Goals as goal
use Rattle.groups.proofs.searching.Search.seed_at.Goals.{then-joins+then-joins-2+in_ok-cover, else-joins, else-joins-via-then-joins+else-joins-2, else-joins-via-else-joins}

bits : (u v : ℕ) → u < 64 → v < 64 → bit_or ((1 * 2 ^ u) % 2 ^ 64) ((1 * 2 ^ v) % 2 ^ 64) ≡ two u v
bits u v a b = ap₂ bit_or (one_shl u 64 a) (one_shl v 64 b)

pub cover-requires : goal.cover-requires
cover-requires c =
    let bit = bits c.args.u c.loop-v.v c.requires c.loop-v-test.true in
    rw bit (two_paired c.loop-v.self.rows.bits c.loop-v.self.rows.lawful c.args.u c.loop-v.v (rw bit at c.if-joins.ensures) (rw bit at c.if-joins-2.ensures))

pub loop-v-preserved : goal.loop-v-preserved
loop-v-preserved c =
    let u = c.args.u in
    let v = c.loop-v.v in
    let a = c.loop-v.self in
    let bit = bits u v c.requires c.loop-v-test.true in
    elim c.if-joins.branch [
      | then-joins+then-joins-2+in_ok-cover w ↦ rw w.self-is (
          let b = w.cover.new.self in
          let h : Covered a b (two u v) = rw bit at w.in_ok-cover.ensures in
          (kept_trans c.args.self.now a b c.loop-v.invariant.0 h.kept, seeded_at a b h.kept u v h.covers c.loop-v.invariant.1))
      | else-joins w ↦ rw w.self-is (
        c.loop-v.invariant.0,
        seeded_skip a u v
            (λ p q. elim w.else-joins.branch [
              | else-joins-via-then-joins+else-joins-2 k ↦ (rw bit at k.if-joins-2.ensures) q
              | else-joins-via-else-joins k ↦ (rw bit at k.if-joins.ensures) p
            ])
            c.loop-v.invariant.1,
      )
    ]
