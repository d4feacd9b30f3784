use Rattle.std.proofs.Common.{◌^◌, ◌||◌, ap, ◌∙◌}
use lib.Bits.{bit_or}
use Rattle.std.proofs.lemmas.Nat.{one_shl}
use Rattle.flow.specs.Bits.{bit}
use Rattle.flow.proofs.Bits.{bit_one, bit_or_lem}
use Rattle.flow.proofs.sets.StepSet.with.Goals as goal

pub returns-clause-step : goal.returns-clause-step
returns-clause-step c = λ l p.
    let set = c.self.inside.bits in
    let step = c.args.step in
    rw (← c.self.view_is) (ap (λ x. bit (bit_or set x) p) (one_shl step 32 l) ∙ bit_or_lem set (2 ^ step) p ∙ ap (λ x. bit set p || x) (bit_one step p))
