use Rattle.std.proofs.Common.{◌≡◌, ℕ, ◌*◌, ◌%◌, ◌^◌, ◌<◌, true, sym, refl, ap, ◌∙◌, arith}
use lib.Bits.{bit_or}
use Rattle.std.proofs.lemmas.Nat.{one_shl}
use Rattle.groups.proofs.Reading.{reading_start, reading_yes, reading_no, reading_end}
use Rattle.groups.proofs.rows.read_row.Goals as goal
use Rattle.groups.proofs.rows.read_row.Goals.{then-pair, else-pair}

pub loop-q-preserved : goal.loop-q-preserved
loop-q-preserved g c =
    let pairs = g.B.Bond.pairs c.args.bond.now in
    let p = c.args.p in
    let q = c.loop-q.q in
    let bit : (1 * 2 ^ q) % 2 ^ 64 ≡ 2 ^ q = one_shl q 64 (omega arith) in
    let now-is : c.pair.result ≡ pairs p q = c.pair.ensures.answer ∙ ap (λ f. f p q) c.loop-q.invariant.0 in (
      c.pair.ensures.keeps ∙ c.loop-q.invariant.0,
      c.pair.ensures.stays ∙ c.loop-q.invariant.1,
      elim c.if-pair.branch [
        | then-pair w ↦ rw (w.row-is ∙ ap (bit_or c.loop-q.row) bit) (reading_yes pairs p c.loop-q.row q c.loop-q.invariant.2 (sym now-is ∙ w.if-pair.true))
        | else-pair w ↦ rw w.row-is (reading_no pairs p c.loop-q.row q c.loop-q.invariant.2 (sym now-is ∙ w.if-pair.false))
      ],
    )

pub loop-q-init : goal.loop-q-init
loop-q-init g c = (refl, refl, reading_start _ _)

pub returns : goal.returns
returns g c =
    let met = g.met.B.Bond in
    let bond = c.args.bond.now in
    let pairs = g.B.Bond.pairs bond in
    let p = c.args.p in
    let size = c.args.size in
    let e : c.loop-q.q ≡ size = omega arith in
    let below : (q : ℕ) → pairs p q ≡ true → q < size = λ q t. let b = met.lacks bond q p (sym (met.symmetric bond p q) ∙ t) in rw c.requires.all b in
    record { row = reading_end pairs p c.loop-q.row size below (rw e at c.loop-q.invariant.2); stays = c.loop-q.invariant.1; keeps = c.loop-q.invariant.0 }
