use Rattle.cursors.proofs.Adding.{adds_more}
use Rattle.cursors.proofs.tests.TwicePutU8.put_into.Goals as goal

pub returns : goal.returns
returns c = adds_more c.put_all.ensures c.put_all-2.ensures
