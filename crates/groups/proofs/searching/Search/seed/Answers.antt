use Rattle.groups.proofs.Holding.{kept_trans}
use Rattle.groups.proofs.Turns.{seeded_more, seeded_kept}
use Rattle.groups.proofs.searching.Search.seed.Goals as goal

pub loop-u-preserved : goal.loop-u-preserved
loop-u-preserved c =
    let u = c.loop-u.u in
    let a = c.loop-u.self in
    let b = c.seed_at.new.self in
    let (kept, at) = c.in_ok-seed_at.ensures in
    (kept_trans c.args.self.now a b c.loop-u.invariant.0 kept, seeded_more b u (seeded_kept a b kept u c.loop-u.invariant.1) at)
