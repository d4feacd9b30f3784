-- The numbers of the kinds of words
use Rattle.std.specs.Prelude.{◌≡◌, ℕ, Some, None, Option}
use Rattle.net.specs.declared.kinds.Kind.{Kind}
use Rattle.net.specs.declared.kinds.Kind.TheVariants.{Seen, First, Last, Place, Feeder, Fed, Looping, Count}

abbrev pub number_of : Kind → ℕ
number_of Seen = 1
number_of First = 2
number_of Last = 3
number_of Place = 4
number_of Feeder = 5
number_of Fed = 6
number_of Looping = 7
number_of Count = 8

-- the kind with the number n, or none where no kind has it
abbrev pub Numbered : ℕ → Option Kind → Type 0
Numbered n (Some kind) = number_of kind ≡ n
Numbered n None = (kind : Kind) → number_of kind ≡ n → ⊥
