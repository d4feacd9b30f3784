use Rattle.bonds.proofs.Settled.{only_lists}
use Rattle.bonds.proofs.listing.list_sides.Goals as goal

pub returns : goal.returns
returns c = record { listed = c.list_bond.ensures; only = only_lists _ _ _ _ _ _ _ _ c.list_bond.ensures }
