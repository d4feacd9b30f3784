use Rattle.net.proofs.Bits.{bit_high}
use Rattle.net.proofs.points.fed.Goals as goal

pub returns : goal.returns
returns c = bit_high 32 c.args.place
