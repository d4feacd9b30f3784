use Rattle.words.proofs.Understanding.{understanding}
use Rattle.words.proofs.trail.WordTrail.new.Goals as goal

pub returns-clause-reading : goal.returns-clause-reading
returns-clause-reading c = understanding c.args.words.now
