use Rattle.book.proofs.Lay.{fresh}
use Rattle.book.proofs.shape.Book.open.Goals as goal

pub invariant_of-result-2 : goal.invariant_of-result-2
invariant_of-result-2 c = fresh c.args.steps c.args.words.now (c.if-steps-lt1.false, c.if-steps-gt32.false, c.if-words-lt2.false, c.if-words-gt16384.false)
