use Rattle.std.proofs.Common.{◌∙◌}
use Rattle.cursors.proofs.Adding.{adds_same, adds_more}
use Rattle.listing.proofs.writing.put_number.Goals as goal

pub returns : goal.returns
returns c = adds_more c.put.ensures (adds_same (c.as_bytes.ensures.value ∙ c.format.ensures.text) c.put_all.ensures)
