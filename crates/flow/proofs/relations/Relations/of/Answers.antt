use Rattle.std.proofs.Common.{rules, ◌≡◌, subst}
use Rattle.book.specs.View.{held_by}
use Rattle.flow.specs.Reading.{Tallies, whole}
use Rattle.flow.proofs.Means.{means}
use Rattle.flow.proofs.Whole.{without_none, without_looping}
use Rattle.flow.proofs.relations.Relations.of.Goals as goal

pub returns : goal.returns
returns c =
    let js = held_by c.args.book.now in
    let none : c.default.result ≡ 0 = search rules in
    let held = subst (λ ks. Tallies (whole ks) c.tally_jobs-held.result) (without_none js) (rw none at c.tally_jobs-held.ensures.tallies) in
    let left = subst (λ ks. Tallies (whole ks) c.tally_jobs-reduced.result) (without_looping js c.tally_jobs-held.result.looping held.looping_is) c.tally_jobs-reduced.ensures.tallies in
    record { shows = search rules; means = means js }
