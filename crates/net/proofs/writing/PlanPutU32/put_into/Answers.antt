use Rattle.cursors.proofs.Adding.{adds_more}
use Rattle.net.specs.Writing.{words_by}
use Rattle.net.proofs.Putting.{adds_word}
use Rattle.net.proofs.writing.PlanPutU32.put_into.Goals as goal

pub returns : goal.returns
unfolding words_by
returns c =
    adds_more c.put_steps.ensures (adds_more c.put_steps-2.ensures (adds_more c.put_steps-3.ensures
    (adds_more c.put_places.ensures (adds_more c.put_loops.ensures (adds_word c.word.ensures c.put.ensures)))))
