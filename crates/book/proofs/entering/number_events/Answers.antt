use Rattle.std.proofs.Common.{length, subst, ◌∙◌, sym}
use Rattle.book.specs.Jobs.{OfSteps}
use Rattle.book.proofs.Numbering.{numbers_more, listed_more, steps_more}
use Rattle.book.proofs.entering.number_events.Goals as goal

pub loop-place-preserved : goal.loop-place-preserved
loop-place-preserved g c =
    let order = g.T.Ord.cmp in
    let laws = g.met.T.Step.lawful in
    let roster = c.args.roster.now.entries.now in
    let job = c.args.job.now in
    let out = c.loop-place.numbers.items in
    let inv = c.loop-place.invariant in
    let found = c.in-Some.ensures.first in (
      c.push.ensures.items ∙ numbers_more order laws roster job out c.loop-place.place c.in-Some.number c.index-job-place.result c.loop-place-test.true c.index-job-place.is found inv.0,
      listed_more order laws roster job out c.loop-place.place c.in-Some.number c.index-job-place.result c.loop-place-test.true c.index-job-place.is found inv.1,
      subst (OfSteps (length roster)) (sym c.push.ensures.items) (steps_more order laws roster job out c.loop-place.place c.in-Some.number c.index-job-place.result c.loop-place-test.true c.index-job-place.is found inv.2),
    )
