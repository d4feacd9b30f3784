use Rattle.std.proofs.Common.{rules, ◌≡◌, true, false}
use Rattle.std.proofs.lemmas.Iterator.{first_from_Range}
use Rattle.flow.specs.Bits.{bit}
use Rattle.flow.proofs.Ascending.{first_member}
use Rattle.flow.proofs.sets.StepSet.first_from.Goals as goal

pub returns : goal.returns
returns c =
    let set = c.args.self in
    first_member set c.args.from c.find.result
    (first_from_Range _ _ _ c.find.result (λ k. bit set k ≡ true) (λ k. bit set k ≡ false) c.find.ensures.ran (λ x q k. search rules) (λ x q k. search rules))
