use Rattle.std.proofs.Common.{◌≡◌, ℕ, ◌<◌, ◌≢◌, length, get_or, set, refl, ◌∙◌, arith, below_more}
use Rattle.std.proofs.lemmas.List.{get_or-set_same, get_or-set_other, length-set}
use Rattle.groups.specs.Rows.{Lawful, Row}
use Rattle.groups.proofs.Reading.{rows_read, zeros}
use Rattle.groups.proofs.rows.Rows.read.Goals as goal

pub loop-p-init : goal.loop-p-init
loop-p-init g c =
    (refl, refl, rw c.size-size.ensures.answer (g.met.B.Bond.few c.args.bond.now), refl, (λ k l. absurd (omega arith)), (λ k _. zeros 64 k))

pub loop-p-preserved : goal.loop-p-preserved
loop-p-preserved g c =
    let pairs = g.B.Bond.pairs c.size-size.new.self in
    let rows = c.loop-p.bits in
    let p = c.loop-p.p in
    let x = c.read_row.result in
    let few = c.loop-p.invariant.2 in
    let long : p < length rows = (let e = c.loop-p.invariant.3 in omega arith) in
    let row : Row pairs p x = rw c.loop-p.invariant.0 at c.read_row.ensures.row in
    let other : (k : ℕ) → k ≢ p → get_or (set rows p x) k 0 ≡ get_or rows k 0 = λ k ne. get_or-set_other rows p k x 0 ne in (
      c.read_row.ensures.keeps ∙ c.loop-p.invariant.0,
      c.read_row.ensures.stays ∙ c.loop-p.invariant.1,
      few,
      length-set rows p x ∙ c.loop-p.invariant.3,
      below_more (λ k. Row pairs k (get_or (set rows p x) k 0)) p (λ k l. rw (other k (omega arith)) (c.loop-p.invariant.4 k l)) (rw (get_or-set_same rows p x 0 long) row),
      λ k l. other k (omega arith) ∙ c.loop-p.invariant.5 k (omega arith),
    )

pub invariant_of-result : goal.invariant_of-result
invariant_of-result g c =
    let met = g.met.B.Bond in
    let bond = c.args.bond.now in
    let keeps = c.size-size.ensures.keeps in
    let size_is = c.size-size.ensures.answer in
    let same = rows_read (g.B.Bond.pairs bond) c.loop-p.bits c.loop-p.p (rw keeps at c.loop-p.invariant.4) c.loop-p.invariant.5
    (λ p q t. let b = met.lacks bond p q t in omega arith) in
    let lawful : Lawful (g.B.Bond.pairs bond) = record { even = met.symmetric bond; below = λ p q t. let a = met.few bond in let b = met.lacks bond p q t in omega arith } in
    record { lawful = rw same lawful }

pub returns : goal.returns
returns g c =
    let met = g.met.B.Bond in
    let bond = c.args.bond.now in
    let keeps = c.size-size.ensures.keeps in
    let size_is = c.size-size.ensures.answer in
    record {
      rows = rows_read (g.B.Bond.pairs bond) c.loop-p.bits c.loop-p.p (rw keeps at c.loop-p.invariant.4) c.loop-p.invariant.5
          (λ p q t. let b = met.lacks bond p q t in omega arith);
      stays = c.loop-p.invariant.1 ∙ c.size-size.ensures.stays;
      keeps = c.loop-p.invariant.0 ∙ keeps;
    }
