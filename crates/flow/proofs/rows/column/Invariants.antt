use Rattle.std.proofs.Common.{◌≡◌, ℕ, ◌&&◌, ltb}
use Rattle.flow.specs.Bits.{bit, row}
use Rattle.flow.proofs.rows.column.Given as goal

abbrev pub invariant-loop-b : goal.invariant-loop-b
invariant-loop-b l = (b : ℕ) → bit l.set b ≡ (ltb b l.b && row l.rows b l.step)
