use Rattle.std.proofs.Common.{rules, arith}
use Rattle.net.specs.Kinds.{number_of}
use Rattle.net.specs.Net.{word}
use Rattle.net.proofs.Putting.{putting_none, putting_more, putting_all, putting_step, step_words_lem}
use Rattle.net.proofs.writing.put_steps.Goals as goal

pub loop-step-init : goal.loop-step-init
loop-step-init c = putting_none c.args.cursor.now (word (number_of c.args.kind)) c.args.steps (search rules)

pub overflow_cast-step : goal.overflow_cast-step
overflow_cast-step c = omega (arith, putting_step c.loop-step.invariant c.in-Some.ensures.steps)

pub word-requires : goal.word-requires
word-requires c = omega (arith, putting_step c.loop-step.invariant c.in-Some.ensures.steps)

pub loop-step-preserved : goal.loop-step-preserved
loop-step-preserved c = putting_more c.loop-step.invariant c.in-Some.ensures.steps c.word.ensures c.put.ensures

pub returns : goal.returns
returns c = step_words_lem (number_of c.args.kind) c.args.steps (putting_all c.loop-step.invariant c.in-None.ensures.steps.0)
