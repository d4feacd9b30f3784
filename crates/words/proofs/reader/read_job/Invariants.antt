use Rattle.std.proofs.Common.{◌≡◌, ◌+◌, ◌≤◌, take, drop}
use Rattle.words.specs.Scan.{scan, from}
use Rattle.words.proofs.reader.read_job.Given as goal

abbrev pub invariant-loop-i : goal.invariant-loop-i
invariant-loop-i l =
    (l.due + l.had ≤ 1000)
    × (l.due ≡ 0 → l.had ≡ 0)
    × (from l.words l.at ≡ scan (drop (l.at + l.i) l.words) (l.at + l.i) l.due (take l.had l.work))
