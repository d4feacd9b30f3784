-- What words say, one after the other
use Rattle.std.specs.Prelude.{◌≡◌, ℕ, zero, suc, ◌+◌, ◌-◌, ◌≤◌, cond, ◌&&◌, List, [], ◌∷◌, ◌++◌, length, take, drop, Some, None, Option, Ok, Err, Result, ◌==◌, nat_le}
use Rattle.steps.specs.declared.codes.Code.{Code}
use Rattle.trails.specs.declared.endings.Cause.TheVariants.{OutOfTurn, JobSize, WordsRunOut, EndBits}
use Rattle.trails.specs.declared.endings.TrailFault.{TrailFault}
use Rattle.std.specs.Prelude.{None as End, Some as Fault}
use Rattle.trails.specs.Told.{Told, over, first}
use Rattle.words.specs.declared.kinds.Word.{Word}
use Rattle.words.specs.declared.kinds.Word.TheVariants.{Event, Head, Stop, Filler}
use Rattle.trails.specs.declared.jobs.Job.{Job}
use Rattle.words.specs.declared.verdicts.Verdict.{Verdict}
use Rattle.words.specs.declared.verdicts.Verdict.TheVariants.{Skip, Open, Take, Last, Close, Wrong}
use Rattle.words.specs.Words.{word_of}

-- the verdict on a word where so many events are due
abbrev pub judge_of : Word → ℕ → Verdict
judge_of Filler due = Skip
judge_of (Head n) zero = cond (nat_le 1 n && nat_le n 1000) (Open n) (Wrong JobSize)
judge_of (Head n) (suc due) = Wrong OutOfTurn
judge_of (Stop low) zero = cond (low == 0) Close (Wrong EndBits)
judge_of (Stop low) (suc due) = Wrong OutOfTurn
judge_of (Event c) zero = Wrong OutOfTurn
judge_of (Event c) (suc zero) = Last c
judge_of (Event c) (suc (suc due)) = Take c

-- how a trail ends whose words run out, after so many
abbrev pub ran_out : ℕ → TrailFault
ran_out n = record { cause = WordsRunOut; place = n }

-- what a verdict makes of the word at a place, with so many events due and those had so far; k is what follows
abbrev pub turn : Verdict → ℕ → ℕ → List Code → (ℕ → List Code → Told Code) → Told Code
turn Skip i due had k = k due had
turn (Open n) i due had k = k n []
turn (Take c) i due had k = k (due - 1) (had ++ c ∷ [])
turn (Last c) i due had k = first (had ++ c ∷ []) (k 0 [])
turn Close i due had k = over End
turn (Wrong cause) i due had k = over (Fault (record { cause = cause; place = i }))

-- what the words say from a place on
unfoldable pub scan : List ℕ → ℕ → ℕ → List Code → Told Code
scan [] i due had = over (Fault (ran_out i))
scan (w ∷ ws) i due had = turn (judge_of (word_of w) due) i due had (scan ws (i + 1))

-- what the words say from a place between two jobs on
abbrev pub from : List ℕ → ℕ → Told Code
from ws i = scan (drop i ws) i 0 []

-- what reading one job at a place answers, with v the work memory after
abbrev pub GivesJob : List ℕ → ℕ → List Code → Result (Option Job) TrailFault → Type 0
GivesJob ws i v (Ok (Some j)) = (j.after ≤ length ws) × (j.len ≤ 1000) × (from ws i ≡ first (take j.len v) (from ws j.after))
GivesJob ws i v (Ok None) = from ws i ≡ over End
GivesJob ws i v (Err f) = from ws i ≡ over (Fault f)
