use Rattle.std.proofs.Common.{rules, length, ap, arith}
use Rattle.cursors.proofs.Adding.{wrote}
use Rattle.cursors.proofs.putting.write.Goals as goal

pub returns : goal.returns
returns g c =
    let fits = c.new-cursor.result.fits in
    let long = ap length c.new-cursor.ensures.memory in
    wrote c.new-cursor.result c.put_into-2.new.cursor (g.P.Put.items c.args.what.now) c.args.out.now _ c.len-2.result c.new-cursor.ensures.count c.new-cursor.ensures.memory (search rules) c.len-2.ensures (omega (arith, c.put_into.ensures.count, c.new-counter.ensures.count, c.len.ensures, c.min.ensures, c.if-len-min.false)) c.put_into-2.ensures
