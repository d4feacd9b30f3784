use Rattle.std.proofs.Common.{◌≡◌, true, ◌↔◌}
use Rattle.std.proofs.lemmas.Slice.Eq.{slice_eq-Decides}
use Rattle.runs.proofs.Examples.{examples}
use Rattle.runs.proofs.Runs.{main_law}
use Rattle.runs.proofs.Shown.{shown}
use Rattle.runs.proofs.comparing.same_words.Goals as goal
use Rattle.std.proofs.lemmas.Bool.Decides.{Decides-eqb}

pub returns : goal.returns
returns g c =
    let e : (c.eq.result ≡ true) ↔ (c.args.a.now ≡ c.args.b.now) = slice_eq-Decides Decides-eqb c.args.a.now c.args.b.now c.eq.result c.eq.ensures in
    let (draws, agree) = main_law g.S.Ord.cmp c.args.roster.now.entries.now in
    record {
      equal = e;
      law = λ js ks d d'.
          let m = agree js ks _ _ d d' in
          (draws js _ d, draws ks _ d', ((λ r. m.0 (e.0 r)), λ facts. e.1 (m.1 facts)));
      examples = examples;
      shown = shown;
    }
