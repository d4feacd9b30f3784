use Rattle.cursors.proofs.Adding.{adds_more}
use Rattle.listing.specs.Pieces.{paged}
use Rattle.listing.proofs.writing.PagePutU8.put_into.Goals as goal

pub returns : goal.returns
unfolding paged
returns c = adds_more c.put_all.ensures c.put_words.ensures
