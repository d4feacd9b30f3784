use Rattle.std.proofs.Common.{length}
use Rattle.book.specs.View.{held_by, memory_of}
use Rattle.book.proofs.SettledFeed.{fed_once}
use Rattle.book.proofs.Together.{together}
use Rattle.book.proofs.shape.Book.feed.Goals as goal

pub returns : goal.returns
returns g c =
    let book = c.args.self.now in
    let done = c.feed_trail.ensures in
    let jobs = g.T.Trail.jobs in
    record {
      fed = done.fed;
      only = λ s hs left other. fed_once g.T.Step.Ord.cmp book.steps (length (memory_of book)) c.args.roster.now.entries.now (jobs c.args.trail.now) (g.T.Trail.ending c.args.trail.now) (length c.args.work.now) (held_by book) book.apart c.feed_trail.result s (held_by c.feed_trail.new.self) hs (jobs c.feed_trail.new.trail) left done.fed other;
      together = together g.T.Step.Ord.cmp book.steps (length (memory_of book)) c.args.roster.now.entries.now (jobs c.args.trail.now) (g.T.Trail.ending c.args.trail.now) (held_by book) c.feed_trail.result (held_by c.feed_trail.new.self) (jobs c.feed_trail.new.trail);
      ending = done.ending;
      laid = done.laid;
      stays = done.stays;
    }
