use Rattle.std.proofs.Common.{◌≡◌, rules, ℕ, ◌≤◌, Bool, length, ap, sym, ◌∙◌, ⊎_elim, arith}
use Rattle.std.proofs.lemmas.Bool.{cases_lt, lt-ltb, le-ltb}
use Rattle.std.proofs.lemmas.List.{get_or_default}
use Rattle.flow.specs.Bits.{bit, row}
use Rattle.flow.proofs.Bits.{bit_none}
use Rattle.flow.proofs.Marks.{row_past}
use Rattle.flow.proofs.Turning.{those_more}
use Rattle.flow.proofs.rows.column.Goals as goal
use Rattle.flow.proofs.rows.column.Goals.{then-has, else-has}

pub loop-b-init : goal.loop-b-init
loop-b-init c = λ b. let e : c.default-set.result ≡ 0 = search rules in rw (e, le-ltb b 0 (omega arith)) (bit_none b)

pub loop-b-preserved : goal.loop-b-preserved
loop-b-preserved c =
    let rows = c.args.rows.now in
    let step = c.args.step in
    let in_row : ℕ → Bool = λ b. row rows b step in
    let here : c.has.result ≡ in_row c.loop-b.b = c.has.ensures.member ∙ ap (λ g. bit g step) (get_or_default rows c.loop-b.b c.index-rows-b.result 0 (omega arith)) in
    let more = those_more in_row c.loop-b.set c.loop-b.b c.if-has.set c.loop-b.invariant in
    elim c.if-has.branch [
      | then-has w ↦ more _ (sym w.if-has.true ∙ here) (rw w.set-is (w.with-set.ensures.step c.loop-b-test.true))
      | else-has w ↦ more _ (sym w.if-has.false ∙ here) w.set-is
    ]

pub returns : goal.returns
returns c = λ b.
    let rows = c.args.rows.now in
    c.loop-b.invariant b ∙ ⊎_elim (λ l. rw (lt-ltb b c.loop-b.b l))
    (λ l. let past : length rows ≤ b = omega arith in rw (le-ltb b c.loop-b.b l) (sym (row_past rows b c.args.step past)))
    (cases_lt b c.loop-b.b)
