use Rattle.texts.proofs.Understanding.{understanding}
use Rattle.texts.proofs.trail.TextTrail.new.Goals as goal

pub returns-clause-reading : goal.returns-clause-reading
returns-clause-reading c = understanding c.args.text.now
