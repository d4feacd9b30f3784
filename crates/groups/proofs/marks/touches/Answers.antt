use Rattle.std.proofs.Common.{⊎_elim}
use lib.Bits.{bit_and}
use Rattle.std.proofs.lemmas.Bool.{cases_eq, eq-eqb, ne_eqb}
use Rattle.groups.proofs.Sets.{touches, apart}
use Rattle.groups.proofs.marks.touches.Goals as goal

pub returns : goal.returns
returns c =
    let set = c.args.set in
    let mark = c.args.mark in
    ⊎_elim (λ e. rw (eq-eqb (bit_and set mark) 0 e) (apart set mark e)) (λ e. rw (ne_eqb (bit_and set mark) 0 e) (touches set mark e)) (cases_eq (bit_and set mark) 0)
