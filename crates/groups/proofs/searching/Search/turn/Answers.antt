use Rattle.std.proofs.lemmas.List.Elements.{All-contains}
use Rattle.groups.specs.Rows.{turned}
use Rattle.groups.specs.Found.{Sought}
use Rattle.groups.specs.Search.{Covered}
use Rattle.groups.proofs.Holding.{opened, kept_trans, kept_has}
use Rattle.groups.proofs.Turns.{turned_paired, closed_at, closed_none, closed_same}
use Rattle.groups.proofs.searching.Search.turn.Goals as goal
use Rattle.groups.proofs.searching.Search.turn.Goals.{then-set-group+then-joins+in_ok-cover, else-set-group, else-set-group-via-then-set-group+else-joins, else-set-group-via-else-set-group}

pub cover-requires : goal.cover-requires
cover-requires c =
    let g = c.args.group in
    let s = c.loop-w.self in
    let has = kept_has c.args.self.now s c.loop-w.invariant.0 g c.requires in
    let listed : Sought s.rows s.marks g = All-contains (Sought s.rows s.marks) s.found.items g (opened s).sound has in
    rw c.turned-set.ensures (turned_paired s.rows.bits s.rows.lawful g c.loop-w.w listed.largest.paired (rw c.turned-set.ensures at c.if-joins.ensures))

pub loop-w-preserved : goal.loop-w-preserved
loop-w-preserved c =
    let g = c.args.group in
    let x = c.loop-w.w in
    let a = c.loop-w.self in
    let has = kept_has c.args.self.now a c.loop-w.invariant.0 g c.requires in
    elim c.if-set-group.branch [
      | then-set-group+then-joins+in_ok-cover w ↦ rw w.self-is (
          let b = w.cover.new.self in
          let h : Covered a b (turned a.rows.bits g x) = rw c.turned-set.ensures at w.in_ok-cover.ensures in
          (kept_trans c.args.self.now a b c.loop-w.invariant.0 h.kept, closed_at a b h.kept g x (rw h.kept.rows h.covers) c.loop-w.invariant.1))
      | else-set-group w ↦ rw w.self-is (
        c.loop-w.invariant.0,
        elim w.else-set-group.branch [
          | else-set-group-via-then-set-group+else-joins k ↦ closed_none a g x (rw c.turned-set.ensures at k.if-joins.ensures) c.loop-w.invariant.1
          | else-set-group-via-else-set-group k ↦ closed_same a g x has (rw c.turned-set.ensures at k.if-set-group.false) c.loop-w.invariant.1
        ],
      )
    ]
