-- The five numbers of each fault of a draw, and the fault that a list of its places gives
use Rattle.refusals.specs.declared.Refusal.{Refusal}
use Rattle.book.specs.Faults.{void_refusal}
use Rattle.bonds.specs.declared.faults.BondFault.{BondFault}
use Rattle.bonds.specs.declared.faults.BondFault.TheVariants as bond
use Rattle.groups.specs.declared.faults.ListFault.TheVariants as list
use Rattle.net.specs.declared.faults.DrawFault.{DrawFault}
use Rattle.net.specs.declared.faults.DrawFault.TheVariants.{Void, TooMany, Unseated, TooShort}

abbrev pub draw_refusal : DrawFault → Refusal
draw_refusal (Void v) = void_refusal v
draw_refusal TooMany = record { row = 10; layer = 4; job = 0; place = 0; cause = 0 }
draw_refusal (Unseated t) = record { row = 9; layer = 4; job = 0; place = t; cause = 0 }
draw_refusal TooShort = record { row = 11; layer = 4; job = 0; place = 0; cause = 0 }

abbrev pub of_bond : BondFault → DrawFault
of_bond (bond.Void v) = Void v
of_bond (bond.List list.TooMany) = TooMany
of_bond (bond.List list.TooShort) = TooShort
