use Rattle.std.proofs.Common.{get_or, ⊎_elim}
use lib.Bits.{bit_and}
use Rattle.std.proofs.lemmas.Bool.{cases_eq, eq-eqb, ne_eqb}
use Rattle.groups.proofs.RowBits.{joins_bits, bits_join}
use Rattle.groups.proofs.rows.Rows.joins.Goals as goal

pub returns : goal.returns
returns c =
    let rows = c.args.self.now.bits in
    let p = c.args.p in
    let set = c.args.set in
    let both = bit_and set (get_or rows p 0) in
    ⊎_elim (λ e. rw (eq-eqb both set e) (bits_join rows p set e)) (λ n. rw (ne_eqb both set n) (λ h. n (joins_bits rows p set h))) (cases_eq both set)
