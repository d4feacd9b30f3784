use Rattle.cursors.proofs.Adding.{adds_same, adds_more}
use Rattle.net.proofs.Putting.{adds_word}
use Rattle.net.proofs.Shown.{place_words_lem}
use Rattle.net.proofs.writing.put_place.Goals as goal

pub returns : goal.returns
returns c =
    adds_same (place_words_lem c.args.number c.args.place c.feeders.result c.fed.result c.feeders.ensures c.fed.ensures)
    (adds_more (adds_more (adds_word c.word.ensures c.put.ensures) (rw c.from.ensures at c.put_steps.ensures)) (rw c.from-2.ensures at c.put_steps-2.ensures))
