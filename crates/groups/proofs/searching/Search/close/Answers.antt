use Rattle.std.proofs.Common.{◌≡◌, ◌<◌, length, arith}
use Rattle.groups.specs.Search.{Closed}
use Rattle.groups.specs.Found.{Whole}
use Rattle.groups.proofs.Closure.{closed_whole}
use Rattle.groups.proofs.Holding.{kept_trans, kept_length}
use Rattle.groups.proofs.Turns.{seeded_kept, closed_more}
use Rattle.groups.proofs.searching.Search.close.Goals as goal

pub loop-i-preserved : goal.loop-i-preserved
loop-i-preserved c =
    let a = c.loop-i.self in
    let b = c.turn.new.self in
    let (kept, at) = c.in_ok-turn.ensures in
    let under : c.loop-i.i < length a.found.items = omega arith in
    let more = kept_length a b kept in (
      kept_trans c.args.self.now a b c.loop-i.invariant.0 kept,
      seeded_kept a b kept 64 c.loop-i.invariant.1,
      closed_more a b kept c.loop-i.i under c.loop-i.invariant.2 (rw c.deref.ensures.0 at at),
      omega arith,
    )

pub returns : goal.returns
returns c =
    let s = c.loop-i.self in
    let kept = c.loop-i.invariant.0 in
    let e : c.loop-i.i ≡ length s.found.items = (let l = c.loop-i.invariant.3 in omega arith) in
    let closed : Closed s (length s.found.items) = rw e at c.loop-i.invariant.2 in
    let whole : Whole s.rows s.marks s.found.items = closed_whole s c.loop-i.invariant.1 closed in
    rw (kept.rows, kept.marks) at whole
