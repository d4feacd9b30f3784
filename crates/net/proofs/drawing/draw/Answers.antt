use Rattle.std.proofs.Common.{length}
use Rattle.book.specs.View.{held_by, memory_of}
use Rattle.net.proofs.Settled.{only_drew}
use Rattle.net.proofs.drawing.draw.Goals as goal

pub returns : goal.returns
returns c =
    let book = c.args.book.now in
    record {
      drew = c.draw_net.ensures;
      only = only_drew book.steps (length (memory_of book)) (held_by book) c.args.out.now c.draw_net.new.out c.draw_net.result c.draw_net.ensures;
    }
