use Rattle.cursors.proofs.Adding.{adds_none, adds_more}
use Rattle.net.proofs.Shown.{groups_none, groups_more}
use Rattle.net.proofs.writing.put_places.Goals as goal

pub loop-number-init : goal.loop-number-init
loop-number-init c = rw groups_none (adds_none c.args.cursor.now)

pub loop-number-preserved : goal.loop-number-preserved
loop-number-preserved c = rw (groups_more c.args.places.list.now c.loop-number.number c.loop-number-test.true) (adds_more c.loop-number.invariant c.put_place.ensures)
