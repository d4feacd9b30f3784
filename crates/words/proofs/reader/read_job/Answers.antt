use Rattle.std.proofs.Common.{Some, ◌≡◌, ◌+◌, ◌-◌, ◌<◌, [], ◌∷◌, ◌++◌, length, take, drop, sym, refl, ap, ◌∙◌, arith}
use Rattle.std.proofs.lemmas.List.{take_more_set}
use Rattle.trails.specs.Told.{first, over}
use Rattle.words.specs.Scan.{from, scan, ran_out}
use Rattle.words.specs.declared.verdicts.Verdict.TheVariants.{Open, Take, Last}
use Rattle.words.proofs.Turns.{ahead, scan_end, at_rest, length-rest}
use Rattle.words.proofs.reader.read_job.Goals as goal

pub returns-in-Close : goal.returns-in-Close
returns-in-Close c = at_rest _ _ _ _ _ _ _ _ c.loop-i.invariant.2 c.loop-i-test.true c.from.ensures c.in-Close.ensures

pub returns-in-Wrong : goal.returns-in-Wrong
returns-in-Wrong c = at_rest _ _ _ _ _ _ _ _ c.loop-i.invariant.2 c.loop-i-test.true c.from.ensures c.in-Wrong.ensures

pub returns-in-Last : goal.returns-in-Last
returns-in-Last c =
    let l = c.loop-i in
    let one : l.due ≡ 1 = ahead c.from.result l.due (Last c.in-Last.code) c.in-Last.ensures in
    let within : l.had < length l.work = omega arith in
    let next : c.args.at + (l.i + 1) ≡ c.args.at + l.i + 1 = omega arith in (
      omega (arith, length-rest c.args.words.now c.args.at),
      omega arith,
      at_rest _ _ _ _ _ _ _ _ l.invariant.2 c.loop-i-test.true c.from.ensures c.in-Last.ensures
          ∙ ap (λ k. first (take l.had l.work ++ c.in-Last.code ∷ []) (from c.args.words.now k)) next
          ∙ ap (λ j. first j (from c.args.words.now (c.args.at + l.i + 1))) (sym (take_more_set l.work l.had c.in-Last.code within)),
    )

pub loop-i-preserved : goal.loop-i-preserved
loop-i-preserved c =
    let l = c.loop-i in
    let ws = c.args.words.now in
    elim c.match-judge.branch [
      | goal.in-Skip w ↦
          rw (w.work-is, w.due-is, w.had-is)
          (l.invariant.0, l.invariant.1, at_rest _ _ _ _ _ _ _ _ l.invariant.2 c.loop-i-test.true c.from.ensures w.in-Skip.ensures)
      | goal.in-Open w ↦
          let o = ahead c.from.result l.due (Open w.in-Open.n) w.in-Open.ensures in
          let none : l.had ≡ 0 = l.invariant.1 o.0 in
          rw (w.work-is, w.due-is, w.had-is, none)
          (omega (arith, o.2), λ _. refl, at_rest _ _ _ _ _ _ _ _ l.invariant.2 c.loop-i-test.true c.from.ensures w.in-Open.ensures)
      | goal.in-Take w ↦
          let many : 1 < l.due = ahead c.from.result l.due (Take w.in-Take.code) w.in-Take.ensures in
          let within : l.had < length l.work = omega arith in
          rw (w.work-is, w.due-is, w.had-is) (
            omega arith,
            λ z. omega arith,
            at_rest _ _ _ _ _ _ _ _ l.invariant.2 c.loop-i-test.true c.from.ensures w.in-Take.ensures
                ∙ ap (scan (drop (c.args.at + (l.i + 1)) ws) (c.args.at + (l.i + 1)) (l.due - 1)) (sym (take_more_set l.work l.had w.in-Take.code within)),
          )
    ]

pub returns : goal.returns
returns c =
    let l = c.loop-i in
    let ws = c.args.words.now in
    let last : c.args.at + l.i ≡ length ws = omega (arith, length-rest ws c.args.at) in
    l.invariant.2 ∙ scan_end ws (c.args.at + l.i) l.due (take l.had l.work) (omega arith) ∙ ap (λ i. over (Some (ran_out i))) last ∙ ap (λ f. over (Some f)) (sym c.run_out.ensures)
