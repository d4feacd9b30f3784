use Rattle.listing.proofs.Telling.{pages_tell}
use Rattle.listing.proofs.listing.list_book.Goals as goal

pub returns : goal.returns
returns c = record { listed = c.list_net.ensures; tells = pages_tell _ _ }
