use Rattle.std.proofs.Common.{◌||◌, ap₂, ◌∙◌}
use Rattle.flow.proofs.Bits.{bit_or_lem, bit_small}
use Rattle.flow.proofs.sets.StepSet.union.Goals as goal

pub returns-clause-past : goal.returns-clause-past
returns-clause-past c = λ s l.
    let x = c.self.inside.bits in
    let y = c.other.inside.bits in
    bit_or_lem x y s ∙ ap₂ ◌||◌ (bit_small 32 x s c.self.invariant l) (bit_small 32 y s c.other.invariant l)
