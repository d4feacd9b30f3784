use Rattle.std.proofs.Common.{rules, ap, ◌∙◌, arith}
use Rattle.net.specs.Net.{loop_word}
use Rattle.net.proofs.Putting.{seat_word, putting_none, putting_more, putting_all, putting_step, loop_words_lem}
use Rattle.net.proofs.writing.put_loops.Goals as goal

pub loop-step-init : goal.loop-step-init
loop-step-init c = putting_none c.args.cursor.now (seat_word c.args.seats.now) c.args.steps (search rules)

pub bounds-seats-step : goal.bounds-seats-step
bounds-seats-step c = putting_step c.loop-step.invariant c.in-Some.ensures.steps

pub overflow_cast-step : goal.overflow_cast-step
overflow_cast-step c = omega (arith, putting_step c.loop-step.invariant c.in-Some.ensures.steps)

pub overflow_add-from : goal.overflow_add-from
overflow_add-from c = omega (arith, c.from.type_inv, c.from.ensures, putting_step c.loop-step.invariant c.in-Some.ensures.steps)

pub word-requires : goal.word-requires
word-requires c = omega (arith, putting_step c.loop-step.invariant c.in-Some.ensures.steps)

pub loop-step-preserved : goal.loop-step-preserved
loop-step-preserved c =
    putting_more c.loop-step.invariant c.in-Some.ensures.steps (c.word.ensures ∙ ap (λ n. loop_word (c.in-Some.step, n)) c.from.ensures) c.put.ensures

pub returns : goal.returns
returns c = loop_words_lem c.args.steps c.args.seats.now (putting_all c.loop-step.invariant c.in-None.ensures.steps.0)
