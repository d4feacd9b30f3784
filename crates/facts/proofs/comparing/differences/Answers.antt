use Rattle.facts.proofs.Agreeing.{differs, agrees}
use Rattle.facts.proofs.Law.{law, drew_same}
use Rattle.facts.proofs.comparing.differences.Goals as goal

pub returns : goal.returns
returns c =
    let each = differs _ _ _ _ c.of.ensures.shows c.of-2.ensures.shows _ c.differences.ensures in
    let agree = agrees _ _ _ each in
    record {
      each = each;
      agree = agree;
      nets = λ ws vs d e. let l = law _ _ ws vs d e in (λ h. l.1 (agree.0 h), λ h. agree.1 (l.0 h));
      draws = λ h. drew_same _ _ (agree.0 h);
    }
