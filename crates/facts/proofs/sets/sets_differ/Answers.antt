use Rattle.std.proofs.Common.{not, eqb, ap}
use Rattle.std.proofs.lemmas.Bool.{eqb-true, eq-eqb, not-false}
use Rattle.flow.specs.Bits.{bit}
use Rattle.flow.proofs.Bits.{same_low}
use Rattle.facts.proofs.sets.sets_differ.Goals as goal

pub returns : goal.returns
returns c =
    let a = c.from.result in
    let b = c.from-2.result in
    rw (← c.from.ensures, ← c.from-2.ensures) (
      λ e s l. ap (λ x. bit x s) (eqb-true a b (not-false (eqb a b) e)),
      λ same. ap not (eq-eqb a b (same_low 32 a b c.from.type_inv c.from-2.type_inv same)),
    )
