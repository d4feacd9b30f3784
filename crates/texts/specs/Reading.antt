-- A text as its jobs written out: what it means that a text reads as certain jobs and a certain ending
use Rattle.std.specs.Prelude.{◌≡◌, ℕ, ◌+◌, ◌<◌, ◌≤◌, true, ◌⊎◌, List, [], ◌∷◌, ◌++◌, length, take, ◌≢◌, slice_index}
use Rattle.steps.specs.declared.names.Name.{Name}
use Rattle.steps.specs.Kinds.{name_text}
use Rattle.steps.specs.Ranges.{name_bytes}
use Rattle.trails.specs.declared.endings.Cause.{Cause}
use Rattle.trails.specs.declared.endings.Cause.TheVariants.{OutOfTurn, JobSize, WordsRunOut, EndBits, OddByte, NinthByte, NameDue, CutLine}
use Rattle.trails.specs.declared.endings.TrailFault.{TrailFault}
use Rattle.trails.specs.Jobs.{Ending}
use Rattle.std.specs.Prelude.{None as End, Some as Fault}
use Rattle.trails.specs.Jobs.{Sized, SizedTo}
use Rattle.texts.specs.Tokens.{letter, space, line_end, odd, byte_of}
use Rattle.texts.specs.Sizes.{Fits}

-- names, each with a space after it
abbrev pub spaced : List Name → List ℕ
spaced [] = []
spaced (n ∷ ns) = name_text n ++ (32 ∷ spaced ns)

-- a job as a line: its names parted by single spaces, then the line end
abbrev pub line : List Name → List ℕ
line [] = 10 ∷ []
line (n ∷ []) = name_text n ++ (10 ∷ [])
line (n ∷ (m ∷ ns)) = name_text n ++ (32 ∷ line (m ∷ ns))

-- jobs written out, one a line
abbrev pub written : List (List Name) → List ℕ
written [] = []
written (j ∷ js) = line j ++ written js

-- Up to the offset i the text is these jobs written out, and of one line more these names, each with its space, and the first bytes of another; no line has over `most` names
pub record Reached (most : ℕ) (text : List ℕ) (i : ℕ) (js : List (List Name)) (names : List Name) (tail : List ℕ) : Type 0 where
  pub sized : SizedTo most js
  pub within : i ≤ length text
  pub up_to : take i text ≡ written js ++ (spaced names ++ tail)
  pub fits : Fits most names tail
  pub short : length tail ≤ 8
  pub named : name_bytes tail ≡ true

-- what stands at i, so that no lawful line goes on there, by its cause
abbrev pub Stands : ℕ → Cause → List ℕ → ℕ → List Name → List ℕ → Type 0
Stands most JobSize text i names tail = (i < length text) × (byte_of (slice_index text i) ≡ letter) × (tail ≡ []) × (length names ≡ most)
Stands most OddByte text i names tail = (i < length text) × (byte_of (slice_index text i) ≡ odd)
Stands most NinthByte text i names tail = (i < length text) × (byte_of (slice_index text i) ≡ letter) × (length tail ≡ 8)
Stands most NameDue text i names tail = (i < length text) × ((byte_of (slice_index text i) ≡ space) ⊎ (byte_of (slice_index text i) ≡ line_end)) × (tail ≡ [])
Stands most CutLine text i names tail = (i ≡ length text) × (1 ≤ length names + length tail)
Stands most OutOfTurn text i names tail = ⊥
Stands most WordsRunOut text i names tail = ⊥
Stands most EndBits text i names tail = ⊥

-- the text reads as these jobs and this ending, where no line has over `most` names
abbrev pub ReadingTo : ℕ → List ℕ → List (List Name) → Ending → Type 0
ReadingTo most text js End = SizedTo most js × (text ≡ written js)
ReadingTo most text js (Fault f) = (names : List Name) × (tail : List ℕ) × Reached most text f.place js names tail × Stands most f.cause text f.place names tail

-- a line has 1 to 1,000 names
abbrev pub Reading : List ℕ → List (List Name) → Ending → Type 0
Reading text js e = ReadingTo 1000 text js e

-- lines of names, however many, can come of the text
abbrev pub Viable : List ℕ → Type 0
Viable text = (most : ℕ) × (more : List ℕ) × (js : List (List Name)) × SizedTo most js × (text ++ more ≡ written js)

-- A fault stands at the first offset from which no continuation makes lines of names. The one for the size of a job stands where a line's 1,001st name begins: there no continuation makes lines of at most 1,000 names.
pub record FirstStuck (text : List ℕ) (f : TrailFault) : Type 0 where
  pub viable : Viable (take f.place text)
  pub stuck : f.place < length text → (f.cause ≢ JobSize) → Viable (take (f.place + 1) text) → ⊥
  pub crowded : f.place < length text → (more : List ℕ) (js : List (List Name)) → Sized js → take (f.place + 1) text ++ more ≢ written js
  pub unlawful : (js : List (List Name)) → Sized js → text ≢ written js

-- the text is these jobs written out and a rest that has no whole lawful line at its start
pub record AsWritten (text : List ℕ) (js : List (List Name)) : Type 0 where
  pub rest : List ℕ
  pub is : text ≡ written js ++ rest
  pub no_line : (j : List Name) (q : List ℕ) → 1 ≤ length j → length j ≤ 1000 → rest ≢ line j ++ q

-- What is known of the jobs and the ending that a text is read as
pub record Understood (text : List ℕ) (js : List (List Name)) (e : Ending) : Type 0 where
  pub reads : Reading text js e
  pub only : (ks : List (List Name)) (d : Ending) → Reading text ks d → (ks ≡ js) × (d ≡ e)
  pub as_written : AsWritten text js
  pub stuck : (f : TrailFault) → e ≡ Fault f → FirstStuck text f
