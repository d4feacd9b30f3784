use Rattle.std.proofs.Common.{rules}
use Rattle.facts.proofs.Asking.{any_lacks}
use Rattle.facts.proofs.both.Both.kin_differ_of.Goals as goal

pub returns : goal.returns
returns c = any_lacks _ _ _ _ c.any.ensures.ran (λ x q k. search rules) (λ x q k. search rules)
