use Rattle.std.proofs.Common.{rules}
use Rattle.std.proofs.lemmas.Iterator.{IsFirst-from_position, YieldsList-from_slice}
use Rattle.steps.specs.Rosters.{Listed}
use Rattle.steps.proofs.Firsts.{unlisted_from_first, unlisted_once}
use Rattle.steps.proofs.rosters.first_unlisted.Goals as goal

pub returns : goal.returns
returns g c =
    let first = unlisted_from_first _ _ _ (IsFirst-from_position _ _ _ (λ x. Listed c.args.steps.now x → ⊥) (λ x. Listed c.args.steps.now x) c.position.ensures.ran (YieldsList-from_slice c.args.job.now c.iter.ensures.rest) (λ x q k. search rules) (λ x q k. search rules)) in
    record { first = first; only = λ s. unlisted_once c.args.steps.now c.args.job.now c.position.result s first }
