-- The five numbers of what a trail declines
use Rattle.std.specs.Prelude.{ℕ}
use Rattle.refusals.specs.declared.Refusal.{Refusal}
use Rattle.trails.specs.declared.endings.Cause.{Cause}
use Rattle.trails.specs.declared.endings.Cause.TheVariants.{OutOfTurn, JobSize, WordsRunOut, EndBits, OddByte, NinthByte, NameDue, CutLine}
use Rattle.trails.specs.declared.endings.TrailFault.{TrailFault}
use Rattle.trails.specs.declared.endings.TrailStop.{TrailStop}
use Rattle.trails.specs.declared.endings.TrailStop.TheVariants.{ShortWork, Fault}

abbrev pub cause_number : Cause → ℕ
cause_number OutOfTurn = 1
cause_number JobSize = 2
cause_number WordsRunOut = 3
cause_number EndBits = 4
cause_number OddByte = 5
cause_number NinthByte = 6
cause_number NameDue = 7
cause_number CutLine = 8

abbrev pub fault_refusal : TrailFault → Refusal
fault_refusal f = record { row = 8; layer = 1; job = 0; place = f.place; cause = cause_number f.cause }

abbrev pub stop_refusal : TrailStop → Refusal
stop_refusal ShortWork = record { row = 7; layer = 3; job = 0; place = 0; cause = 0 }
stop_refusal (Fault f) = fault_refusal f
