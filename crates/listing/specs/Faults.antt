-- The five numbers of each fault of a listing
use Rattle.refusals.specs.declared.Refusal.{Refusal}
use Rattle.steps.specs.Faults.{refusal_of}
use Rattle.net.specs.Faults.{draw_refusal}
use Rattle.listing.specs.declared.faults.PageFault.{PageFault}
use Rattle.listing.specs.declared.faults.PageFault.TheVariants.{Roster, Draw}

abbrev pub page_refusal : PageFault → Refusal
page_refusal (Roster f) = refusal_of f
page_refusal (Draw f) = draw_refusal f
