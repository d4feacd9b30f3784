use Rattle.std.proofs.Common.{◌≡◌, ◌<◌, ◌≤◌, [], length, get_or, take, sym, ◌∙◌, arith, below_more}
use Rattle.std.proofs.lemmas.List.{length-take-le}
use Rattle.book.specs.Jobs.{held}
use Rattle.book.proofs.Lay.{ended, t_more, t_head, t_room, t_next, t_job}
use Rattle.book.proofs.finding.find.Goals as goal

pub overflow_sub-len : goal.overflow_sub-len
overflow_sub-len c = omega (arith, t_head c.args.words.now c.args.used c.loop-at.at c.loop-at.n c.requires.within c.loop-at.invariant.0 c.loop-at-test.true)

pub slice_bounds-same-end : goal.slice_bounds-same-end
slice_bounds-same-end c = omega (
  arith,
  t_head c.args.words.now c.args.used c.loop-at.at c.loop-at.n c.requires.within c.loop-at.invariant.0 c.loop-at-test.true,
  t_room c.args.words.now c.args.used c.loop-at.at c.loop-at.n c.requires.within c.loop-at.invariant.0 c.loop-at-test.true,
)

pub returns-then-same : goal.returns-then-same
returns-then-same c = (
  t_more c.args.words.now c.args.used c.loop-at.at c.loop-at.n c.requires.within c.loop-at.invariant.0 c.loop-at-test.true,
  sym (t_job c.args.words.now c.args.used c.loop-at.at c.loop-at.n c.requires.within c.loop-at.invariant.0 c.loop-at-test.true) ∙ c.if-same.ensures,
)

pub loop-at-preserved : goal.loop-at-preserved
loop-at-preserved c =
    let m : c.loop-at.n < length (held c.args.used c.args.words.now) = t_more c.args.words.now c.args.used c.loop-at.at c.loop-at.n c.requires.within c.loop-at.invariant.0 c.loop-at-test.true in (
      t_next c.args.words.now c.args.used c.loop-at.at c.loop-at.n c.requires.within c.loop-at.invariant.0 c.loop-at-test.true,
      omega (arith, c.loop-at.invariant.1),
      omega arith,
      below_more (λ i. get_or (held c.args.used c.args.words.now) i [] ≡ c.args.job.now → ⊥) c.loop-at.n c.loop-at.invariant.3 (λ e. c.if-same.ensures (t_job c.args.words.now c.args.used c.loop-at.at c.loop-at.n c.requires.within c.loop-at.invariant.0 c.loop-at-test.true ∙ e)),
    )

pub returns : goal.returns
returns c =
    let long : length (take c.args.used c.args.words.now) ≡ c.args.used = length-take-le c.args.used c.args.words.now c.requires.within in
    let e : length (held c.args.used c.args.words.now) ≤ c.loop-at.n = ended (take c.args.used c.args.words.now) (held c.args.used c.args.words.now) c.loop-at.at c.loop-at.n c.loop-at.invariant.0 (omega arith) in
    (omega (arith, c.loop-at.invariant.2), λ i h. c.loop-at.invariant.3 i (omega arith))
