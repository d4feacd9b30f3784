use Rattle.std.proofs.Common.{◌≡◌, get_or, ap, arith, ◌∙◌}
use lib.Bits.{bit_or}
use Rattle.std.proofs.lemmas.List.{get_or_default}
use Rattle.flow.proofs.Marks.{row_set}
use Rattle.flow.proofs.rows.StepRelation.add.Goals as goal

pub returns-then-step-lt32-clause-step : goal.returns-then-step-lt32-clause-step
returns-then-step-lt32-clause-step c = λ l.
    let rows = c.self.inside.rows in
    let step = c.args.step in
    let here : c.union.result ≡ bit_or (get_or rows step 0) c.args.steps = c.union.ensures.both ∙ ap (λ g. bit_or g c.args.steps) (get_or_default rows step c.index-self-step.result 0 (omega arith)) in
    rw (← c.self.view_is, here) (row_set rows step c.args.steps (omega arith))
