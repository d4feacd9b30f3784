-- What a text says, byte by byte
use Rattle.std.specs.Prelude.{◌≡◌, ℕ, ◌+◌, ◌≤◌, cond, List, [], ◌∷◌, ◌++◌, length, take, drop, Some, None, Option, Ok, Err, Result, nat_lt}
use Rattle.steps.specs.declared.names.Name.{Name}
use Rattle.steps.specs.Making.{name_of}
use Rattle.trails.specs.declared.endings.Cause.TheVariants.{JobSize, OddByte, NinthByte, NameDue, CutLine}
use Rattle.trails.specs.declared.endings.TrailFault.{TrailFault}
use Rattle.trails.specs.declared.jobs.Job.{Job}
use Rattle.trails.specs.Told.{Told, over, faulty, ended, first}
use Rattle.texts.specs.Tokens.{Byte, letter, space, line_end, odd, byte_of}

-- The byte b at the offset i, where a line may have so many names at most, in a line of which those in `had` are whole names and the bytes in `tail` begin one more; k is what follows
abbrev pub turn : ℕ → Byte → ℕ → ℕ → List Name → List ℕ → (List Name → List ℕ → Told Name) → Told Name
turn most letter b i had [] k = cond (nat_lt (length had) most) (k had (b ∷ [])) (faulty JobSize i)
turn most letter b i had (t ∷ ts) k = cond (nat_lt (length (t ∷ ts)) 8) (k had ((t ∷ ts) ++ b ∷ [])) (faulty NinthByte i)
turn most space b i had [] k = faulty NameDue i
turn most space b i had (t ∷ ts) k = k (had ++ name_of (t ∷ ts) ∷ []) []
turn most line_end b i had [] k = faulty NameDue i
turn most line_end b i had (t ∷ ts) k = first (had ++ name_of (t ∷ ts) ∷ []) (k [] [])
turn most odd b i had tail k = faulty OddByte i

-- no byte is left
abbrev pub stop : ℕ → List Name → List ℕ → Told Name
stop i [] [] = ended
stop i [] (t ∷ ts) = faulty CutLine i
stop i (n ∷ ns) tail = faulty CutLine i

unfoldable pub scan : ℕ → List ℕ → ℕ → List Name → List ℕ → Told Name
scan most [] i had tail = stop i had tail
scan most (b ∷ bs) i had tail = turn most (byte_of b) b i had tail (scan most bs (i + 1))

-- what a text says from an offset on at which a line begins; a line has at most 1,000 names
abbrev pub from : List ℕ → ℕ → Told Name
from text i = scan 1000 (drop i text) i [] []

-- what reading one line at an offset answers, with v the work memory after it
abbrev pub GivesLine : List ℕ → ℕ → List Name → Result (Option Job) TrailFault → Type 0
GivesLine text i v (Ok (Some l)) = (l.after ≤ length text) × (l.len ≤ 1000) × (from text i ≡ first (take l.len v) (from text l.after))
GivesLine text i v (Ok None) = from text i ≡ over None
GivesLine text i v (Err f) = from text i ≡ over (Some f)
