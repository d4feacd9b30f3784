use Rattle.std.proofs.Common.{take}
use Rattle.cursors.specs.Adds.{Adds}
use Rattle.cursors.proofs.cursor.Cursor.put_all.Given as goal

-- the items so far are put
abbrev pub invariant-loop-item : goal.invariant-loop-item
invariant-loop-item g l = Adds l.initial.self (take l.item-index l.items) l.self
