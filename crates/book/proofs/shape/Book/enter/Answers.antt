use Rattle.std.proofs.Common.{length}
use Rattle.book.specs.View.{held_by, memory_of}
use Rattle.book.proofs.Settled.{settled}
use Rattle.book.proofs.shape.Book.enter.Goals as goal

pub returns : goal.returns
returns g c =
    let book = c.args.self.now in
    let done = c.enter_job.ensures in
    record {
      entered = done.entered;
      only = λ s js other. settled g.T.Ord.cmp book.steps (length (memory_of book)) (held_by book) book.apart c.args.roster.now.entries.now c.args.job.now c.enter_job.result s (held_by c.enter_job.new.self) js done.entered other;
      written = done.written;
      stays = done.stays;
    }
