use Rattle.std.proofs.Common.{◌/◌, ◌^◌, eqb, sym, ap, ◌∙◌}
use lib.Bits.{and_mask}
use Rattle.std.proofs.lemmas.Bool.{le-ltb}
use Rattle.flow.specs.Bits.{bit}
use Rattle.flow.proofs.Bits.{bit_small}
use Rattle.flow.proofs.sets.StepSet.has.Goals as goal

pub returns-then-step-lt32-clause-member : goal.returns-then-step-lt32-clause-member
unfolding bit
returns-then-step-lt32-clause-member c = rw (← c.self.view_is) (ap (λ x. eqb x 1) (and_mask (c.self.inside.bits / 2 ^ c.args.step) 1))

pub returns-else-step-lt32-clause-member : goal.returns-else-step-lt32-clause-member
returns-else-step-lt32-clause-member c =
    let l = c.if-step-lt32.false in
    rw (← c.self.view_is) (le-ltb c.args.step 32 l ∙ sym (bit_small 32 c.self.inside.bits c.args.step c.self.invariant l))
