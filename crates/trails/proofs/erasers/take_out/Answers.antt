use Rattle.std.proofs.Common.{sym, ◌∙◌, arith}
use Rattle.std.proofs.lemmas.List.Filters.{FiltersInPlace-more_no, FiltersInPlace-more_set}
use Rattle.trails.proofs.Erasing.{told_apart}
use Rattle.trails.proofs.erasers.take_out.Goals as goal

pub loop-i-preserved : goal.loop-i-preserved
loop-i-preserved g c =
    let s = c.index-work-i.result in
    let e = c.args.step.now in
    let apart = told_apart (g.S.PartialEq.eq s e) (g.S.Ord.cmp s e) (g.met.S.Ord.matches_eq s e) ∙ sym c.ne.ensures in
    elim c.if-ne.branch [
      | goal.then-ne w ↦ rw (w.work-is, w.left-is) (FiltersInPlace-more_set c.loop-i.invariant (omega arith) (apart ∙ w.if-ne.true) c.index-work-i.is)
      | goal.else-ne w ↦ rw (w.work-is, w.left-is) (FiltersInPlace-more_no c.loop-i.invariant (omega arith) (apart ∙ w.if-ne.false) c.index-work-i.is)
    ]
