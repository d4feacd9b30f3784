use Rattle.std.proofs.Common.{◌-◌, not, ◌&&◌, sym, ap, ◌∙◌, ⊎_elim}
use Rattle.std.proofs.lemmas.Bool.{cases_lt}
use Rattle.flow.specs.Bits.{bit}
use Rattle.flow.proofs.Bits.{bit_and_lem, bit_other, bit_small}
use Rattle.flow.proofs.sets.StepSet.without.Goals as goal

pub returns-clause-steps : goal.returns-clause-steps
returns-clause-steps c =
    let x = c.self.inside.bits in
    let y = c.other.inside.bits in
    rw (← c.self.view_is, ← c.other.view_is) (λ s. bit_and_lem x (4294967295 - y) s ∙ ⊎_elim
    (λ l. ap (λ b. bit x s && b) (bit_other 32 y s c.other.invariant l))
    (λ l. ap (λ b. b && bit (4294967295 - y) s) (bit_small 32 x s c.self.invariant l) ∙ ap (λ b. b && not (bit y s)) (sym (bit_small 32 x s c.self.invariant l)))
    (cases_lt s 32))
