use Rattle.std.proofs.Common.{rules}
use Rattle.std.proofs.lemmas.List.Sorted.{answers_always}
use Rattle.std.specs.Ordering.{is_lt}
use Rattle.steps.proofs.Climbs.{ascends_told}
use Rattle.steps.proofs.rosters.ascends.Goals as goal

pub returns : goal.returns
returns g c = ascends_told g.T.Ord.cmp g.met.T.Step.lawful c.args.steps.now _ (c.is_sorted_by.ensures.cases (λ x y. is_lt (g.T.Ord.cmp x y)) (answers_always _ _ _ (λ f a r f' k. let p = g.met.T.Ord.matches_partial_cmp a.0.now a.1.0.now in search rules)))
