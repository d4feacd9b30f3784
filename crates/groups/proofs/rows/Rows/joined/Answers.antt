use Rattle.std.proofs.Common.{◌≡◌, ◌*◌, ◌%◌, ◌^◌, get_or, ap, ◌∙◌, arith}
use lib.Bits.{bit_or}
use Rattle.std.proofs.lemmas.Nat.{one_shl}
use Rattle.groups.specs.Rows.{held}
use Rattle.groups.proofs.RowBits.{held_row, joins_bits, bits_join}
use Rattle.groups.proofs.Grow.{grow_add, grow_skip, grow_end}
use Rattle.groups.proofs.rows.Rows.joined.Goals as goal
use Rattle.groups.proofs.rows.Rows.joined.Goals.{then-joins, else-joins}

pub loop-x-preserved : goal.loop-x-preserved
loop-x-preserved c =
    let rows = c.args.self.now.bits in
    let lawful = c.args.self.now.lawful in
    let x = c.loop-x.x in
    let more = bit_or c.loop-x.group (2 ^ x) in
    let bit : (1 * 2 ^ x) % 2 ^ 64 ≡ 2 ^ x = one_shl x 64 (let t = c.loop-x-test.true in let l = c.requires.points in omega arith) in
    elim c.if-joins.branch [
      | then-joins w ↦ rw (w.group-is ∙ ap (bit_or c.loop-x.group) bit)
          (grow_add (held rows) lawful c.args.set c.loop-x.group x (get_or rows x 0) (held_row rows x) c.loop-x.invariant (joins_bits rows x more (rw bit at w.if-joins.ensures)))
      | else-joins w ↦ rw w.group-is
          (grow_skip (held rows) lawful c.args.set c.loop-x.group x (get_or rows x 0) (held_row rows x) c.loop-x.invariant (λ e. (rw bit at w.if-joins.ensures) (bits_join rows x more e)))
    ]

pub returns : goal.returns
returns c =
    let h = c.loop-x.invariant in
    let l = c.requires.points in
    record {
      largest = λ all.
          let e : c.loop-x.x ≡ 64 = omega arith in
          grow_end (held c.args.self.now.bits) c.args.self.now.lawful c.args.set c.loop-x.group c.requires.some (rw e at h);
      holds = h.holds;
    }
