-- The five numbers of each fault of a book's list
use Rattle.refusals.specs.declared.Refusal.{Refusal}
use Rattle.book.specs.Faults.{void_refusal}
use Rattle.groups.specs.Faults.{refusal_of}
use Rattle.bonds.specs.declared.faults.BondFault.{BondFault}
use Rattle.bonds.specs.declared.faults.BondFault.TheVariants.{Void, List}

abbrev pub bond_refusal : BondFault → Refusal
bond_refusal (Void v) = void_refusal v
bond_refusal (List f) = refusal_of f
