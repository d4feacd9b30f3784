use Rattle.std.proofs.lemmas.Result.{err_from_is_err_and}
use Rattle.steps.specs.Rosters.{numbers}
use Rattle.book.specs.Enter.{written}
use Rattle.std.proofs.Common.{rules, ◌-◌, ◌∷◌, length, take, Ok, Err, sym, refl, ap, subst, ◌∙◌, arith}
use native.Mathlib.Nat.{sub-zero}
use Rattle.trails.specs.Jobs.{Next}
use Rattle.book.specs.View.{held_by, memory_of}
use Rattle.book.specs.Feed.{Took, laid}
use Rattle.book.proofs.Feeds.{accepted_at, as_laid, declined_at, laid_kept, still, went, turn_declined, turn_entered}
use Rattle.book.proofs.shape.Book.feed_jobs.Goals as goal

pub loop-next-init : goal.loop-next-init
loop-next-init g c = (record { steps = refl; long = refl; named = refl }, refl, omega arith, refl, as_laid c.args.self.now c.requires.open, λ r hs left t. t)

pub returns-in_err-map_err : goal.returns-in_err-map_err
returns-in_err-map_err g c =
    let order = g.T.Step.Ord.cmp in
    let book = c.args.self.now in
    let inv = c.loop-next.invariant in
    let got = subst (Next (g.T.Trail.jobs c.loop-next.trail) (g.T.Trail.ending c.loop-next.trail) (g.T.Trail.jobs c.next-asked.new.self) (g.T.Trail.ending c.next-asked.new.self) c.loop-next.work c.next-asked.new.work) (ap Ok c.in-Some.is) c.in-Ok.ensures in
    let took = c.take_job.ensures in
    let p = err_from_is_err_and c.from_residual.result c.from_residual.ensures.1 in
    let q = declined_at c.loop-next.count (λ e f r. search rules) c.take_job.result c.map_err.result c.map_err.ensures.cases c.in_err-map_err.field-0.0 c.in_err-map_err.was in
    let declined = subst (λ r. Took order c.loop-next.self.steps (length (memory_of c.loop-next.self)) c.args.roster.now.entries.now (held_by c.loop-next.self) (take (c.in-Some.n - 0) c.next-asked.new.work) r (held_by c.take_job.new.self)) q.1 took.took in
    let next = got.2 ∙ ap (λ m. take m c.next-asked.new.work ∷ g.T.Trail.jobs c.next-asked.new.self) (sym (sub-zero c.in-Some.n)) in
    let d = turn_declined order c.args.roster.now.entries.now book.steps (length (memory_of book)) c.loop-next.self.steps (length (memory_of c.loop-next.self)) inv.0.steps inv.0.long
    (g.T.Trail.jobs c.loop-next.trail) (g.T.Trail.jobs c.next-asked.new.self) _ next (g.T.Trail.ending c.args.trail.now) c.loop-next.count (held_by c.loop-next.self) (held_by c.take_job.new.self)
    q.0 c.in_err-map_err.field-0.0 c.requires.fit q.2 declined in
    rw (p.1, p.2) (record {
      fed = went order book.steps (length (memory_of book)) c.args.roster.now.entries.now (Err c.in_err-map_err.field-0.0) (g.T.Trail.jobs c.args.trail.now) (g.T.Trail.ending c.args.trail.now) (length c.args.work.now) (held_by book) (held_by c.take_job.new.self) (g.T.Trail.jobs c.next-asked.new.self) c.requires.open c.requires.fit c.requires.work (inv.5 (Err c.in_err-map_err.field-0.0) (held_by c.take_job.new.self) (g.T.Trail.jobs c.next-asked.new.self) d.1);
      ending = got.3 ∙ inv.3;
      laid = took.written ∙ ap (λ r. written (held_by c.loop-next.self) (numbers order c.args.roster.now.entries.now (take (c.in-Some.n - 0) c.next-asked.new.work)) r (memory_of c.loop-next.self)) q.1 ∙ inv.4 ∙ ap (laid (memory_of book)) (sym d.0);
      stays = still inv.0 took.stays;
    })

pub loop-next-preserved : goal.loop-next-preserved
loop-next-preserved g c =
    let order = g.T.Step.Ord.cmp in
    let book = c.args.self.now in
    let roster = c.args.roster.now.entries.now in
    let inv = c.loop-next.invariant in
    let got = subst (Next (g.T.Trail.jobs c.loop-next.trail) (g.T.Trail.ending c.loop-next.trail) (g.T.Trail.jobs c.next-asked.new.self) (g.T.Trail.ending c.next-asked.new.self) c.loop-next.work c.next-asked.new.work) (ap Ok c.in-Some.is) c.in-Ok.ensures in
    let took = c.take_job.ensures in
    let q = accepted_at c.loop-next.count (λ e f r. search rules) c.take_job.result c.map_err.result c.map_err.ensures.cases c.in_ok-map_err.field-0 c.in_ok-map_err.was in
    let accepted = subst (λ r. Took order c.loop-next.self.steps (length (memory_of c.loop-next.self)) roster (held_by c.loop-next.self) (take (c.in-Some.n - 0) c.next-asked.new.work) r (held_by c.take_job.new.self)) q took.took in
    let next = got.2 ∙ ap (λ m. take m c.next-asked.new.work ∷ g.T.Trail.jobs c.next-asked.new.self) (sym (sub-zero c.in-Some.n)) in
    let entered = turn_entered order roster book.steps (length (memory_of book)) c.loop-next.self.steps (length (memory_of c.loop-next.self)) inv.0.steps inv.0.long
    (g.T.Trail.jobs c.loop-next.trail) (g.T.Trail.jobs c.next-asked.new.self) _ next (g.T.Trail.ending c.args.trail.now) c.loop-next.count (held_by c.loop-next.self) (held_by c.take_job.new.self)
    c.in_ok-map_err.field-0 accepted in (
      still inv.0 took.stays,
      c.next-asked.auto.work ∙ inv.1,
      omega (arith, ap length next, inv.2),
      got.3 ∙ inv.3,
      laid_kept (memory_of book) (memory_of c.loop-next.self) (memory_of c.take_job.new.self) (held_by c.loop-next.self) (held_by c.take_job.new.self) _ inv.4 inv.0.long c.in_ok-map_err.field-0 accepted.4 (took.written ∙ ap (λ r. written (held_by c.loop-next.self) (numbers order c.args.roster.now.entries.now (take (c.in-Some.n - 0) c.next-asked.new.work)) r (memory_of c.loop-next.self)) q),
      λ r hs left more. inv.5 r hs left (entered r hs left more),
    )
