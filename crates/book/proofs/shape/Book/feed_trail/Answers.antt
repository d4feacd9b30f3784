use Rattle.std.proofs.Common.{length, refl}
use Rattle.std.proofs.lemmas.Result.{err_from_is_err_and}
use Rattle.book.specs.View.{held_by, memory_of}
use Rattle.book.proofs.Feeds.{always_laid, early}
use Rattle.book.proofs.shape.Book.feed_trail.Goals as goal

pub returns-in_err-ready : goal.returns-in_err-ready
returns-in_err-ready g c =
    let book = c.args.self.now in
    let p = err_from_is_err_and c.from_residual.result c.from_residual.ensures.1 in
    rw (p.1, p.2) (record {
      fed = early g.T.Step.Ord.cmp book.steps (length (memory_of book)) c.args.roster.now.entries.now c.in_err-ready.field-0.0 (g.T.Trail.jobs c.args.trail.now) (g.T.Trail.ending c.args.trail.now) (length c.args.work.now) (held_by book) c.in_err-ready.ensures;
      ending = refl;
      laid = always_laid book;
      stays = record { steps = refl; long = refl; named = refl };
    })
