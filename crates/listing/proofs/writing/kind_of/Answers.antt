use Rattle.listing.proofs.Tagging.{kind_told}
use Rattle.listing.proofs.writing.kind_of.Goals as goal

pub unwrap-requires : goal.unwrap-requires
unwrap-requires c = kind_told _ c.requires.0 c.requires.1 c.of.result c.of.ensures
