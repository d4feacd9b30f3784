use Rattle.std.proofs.Common.{◌≡◌, ◌-◌, ◌≤◌, length, take}
use Rattle.texts.proofs.Sofar.{Sofar}
use Rattle.texts.proofs.lines.read_line.Given as goal

abbrev pub invariant-loop-name : goal.invariant-loop-name
invariant-loop-name l = (l.len ≤ 1000) × (l.lexer.text.now ≡ l.text) × Sofar l.text l.at l.lexer.at l.due (take l.len l.work)

abbrev pub decreases-loop-name : goal.decreases-loop-name
decreases-loop-name l = length l.text - l.lexer.at
