-- The five numbers of each fault of a list
use Rattle.refusals.specs.declared.Refusal.{Refusal}
use Rattle.groups.specs.declared.faults.ListFault.{ListFault}
use Rattle.groups.specs.declared.faults.ListFault.TheVariants.{TooMany, TooShort}

abbrev pub refusal_of : ListFault → Refusal
refusal_of TooMany = record { row = 10; layer = 4; job = 0; place = 0; cause = 0 }
refusal_of TooShort = record { row = 11; layer = 4; job = 0; place = 0; cause = 0 }
