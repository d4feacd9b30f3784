use Rattle.std.proofs.Common.{take}
use Rattle.cursors.specs.Adds.{Adds}
use Rattle.net.specs.Writing.{groups_words}
use Rattle.net.proofs.writing.put_places.Given as goal

abbrev pub invariant-loop-number : goal.invariant-loop-number
invariant-loop-number l = Adds l.initial.cursor (groups_words (take l.number l.places.list.now)) l.cursor
