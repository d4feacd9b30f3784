use Rattle.std.proofs.Common.{[], ◌∷◌, refl}
use Rattle.std.proofs.lemmas.List.Quantifiers.{Any-push}
use Rattle.std.proofs.lemmas.Result.{MatchResult-weaker}
use Rattle.groups.specs.Groups.{Inside}
use Rattle.groups.proofs.Holding.{not_among, sought, holds_more, many}
use Rattle.groups.proofs.searching.Search.cover.Goals as goal

pub invariant_of-self : goal.invariant_of-self
invariant_of-self c =
    let s = c.args.self.now in
    let group = c.grown-group.result in
    let large = c.grown-group.ensures in
    let listed = sought s.rows s.marks c.args.set group large.largest large.holds c.if-not-both_touch.ensures in
    let fresh = not_among s.found.items group (rw c.deref.ensures.0 at c.if-contains.ensures.cases) in
    record { holds = holds_more s group listed fresh c.add.result c.add.new.found c.add.ensures }

pub returns : goal.returns
returns c =
    let s = c.args.self.now in
    let group = c.grown-group.result in
    let large = c.grown-group.ensures in
    let listed = sought s.rows s.marks c.args.set group large.largest large.holds c.if-not-both_touch.ensures in
    let fresh = not_among s.found.items group (rw c.deref.ensures.0 at c.if-contains.ensures.cases) in
    MatchResult-weaker c.add.result c.add.ensures
    (λ _ added. record {
      kept = record { rows = refl; marks = refl; found = (group ∷ [], added.1) };
      covers = λ _ _. rw added.1 (Any-push (Inside c.args.set) s.found.items group large.holds);
    })
    (λ _ full. (full.0, many s group listed fresh full.1))
