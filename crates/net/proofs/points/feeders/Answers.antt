use Rattle.std.proofs.lemmas.Nat.{and_mask}
use Rattle.net.proofs.Bits.{bit_low}
use Rattle.net.proofs.points.feeders.Goals as goal

pub returns : goal.returns
returns c s l = rw (and_mask c.args.place 32) (bit_low 32 c.args.place s l)
