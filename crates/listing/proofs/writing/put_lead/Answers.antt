use Rattle.std.proofs.Common.{◌∷◌, codes, ap}
use Rattle.cursors.proofs.Adding.{adds_same, adds_more}
use Rattle.listing.specs.Pieces.{due, lead}
use Rattle.listing.proofs.writing.put_lead.Goals as goal

pub returns : goal.returns
unfolding lead
returns c =
    adds_more (adds_same (ap (λ b. due b (10 ∷ codes "FIRST")) c.begins.ensures) c.put_due.ensures)
    (adds_more (adds_same (ap (λ b. due b (10 ∷ codes "LAST")) c.begins-2.ensures) c.put_due-2.ensures)
    (adds_same c.mark.ensures c.put_all.ensures))
