use Rattle.std.proofs.Common.{take}
use Rattle.flow.specs.Reading.{Bounded, Tallies}
use Rattle.flow.proofs.Whole.{part_of}
use Rattle.flow.proofs.reading.tally_jobs.Given as goal

abbrev pub invariant-loop-word : goal.invariant-loop-word
invariant-loop-word l = Tallies (part_of l.left_out (take l.word-index l.words)) l.tally × Bounded l.tally
