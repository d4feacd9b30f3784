use Rattle.std.proofs.Common.{rules}
use Rattle.facts.proofs.Asking.{any_has}
use Rattle.facts.proofs.kin.common.Goals as goal

pub returns : goal.returns
returns c = any_has _ _ _ _ c.any.ensures.ran (λ x q k. search rules) (λ x q k. search rules)
