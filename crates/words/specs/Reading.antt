-- What words are read as, told by what is written in them: whole jobs one after the other, filler anywhere, then the end
-- word, or the first place at which that breaks off
use Rattle.std.specs.Prelude.{◌≡◌, ℕ, ◌+◌, ◌<◌, ◌≤◌, ◌⊎◌, List, [], ◌∷◌, ◌++◌, map, length, take, ◌≢◌, slice_index}
use Rattle.steps.specs.declared.codes.Code.{Code}
use Rattle.trails.specs.declared.endings.Cause.{Cause}
use Rattle.trails.specs.declared.endings.Cause.TheVariants.{OutOfTurn, JobSize, WordsRunOut, EndBits, OddByte, NinthByte, NameDue, CutLine}
use Rattle.trails.specs.declared.endings.TrailFault.{TrailFault}
use Rattle.trails.specs.Jobs.{Ending}
use Rattle.std.specs.Prelude.{None as End, Some as Fault}
use Rattle.trails.specs.Jobs.{Sized}
use Rattle.words.specs.declared.kinds.Word.TheVariants.{Event, Head, Stop}
use Rattle.words.specs.Words.{word_of, event_word, head_word, end_word, written, stripped}

-- the words p are the jobs js and nothing more, with filler anywhere
abbrev pub Whole : List (List Code) → List ℕ → Type 0
Whole js p = Sized js × (stripped p ≡ written js)

-- the words p are the jobs js, then the head of a job of n events and those that it has so far, with filler anywhere
abbrev pub Begun : List (List Code) → ℕ → List Code → List ℕ → Type 0
Begun js n had p = Sized js × (n ≤ 1000) × (length had < n) × (stripped p ≡ written js ++ head_word n ∷ map event_word had)

-- the words p are the jobs js and some part of one more
abbrev pub Unfinished : List (List Code) → List ℕ → Type 0
Unfinished js p = (n : ℕ) × (had : List Code) × Begun js n had p

abbrev pub SaysEvent : ℕ → Type 0
SaysEvent w = (c : Code) × (word_of w ≡ Event c)

abbrev pub SaysHead : ℕ → Type 0
SaysHead w = (n : ℕ) × (word_of w ≡ Head n)

abbrev pub SaysEnd : ℕ → Type 0
SaysEnd w = (low : ℕ) × (word_of w ≡ Stop low)

-- what is wrong with the word w after the words p, whose whole jobs are js
abbrev pub WrongWord : Cause → List (List Code) → List ℕ → ℕ → Type 0
WrongWord OutOfTurn js p w = (Whole js p × SaysEvent w) ⊎ (Unfinished js p × (SaysHead w ⊎ SaysEnd w))
WrongWord JobSize js p w = Whole js p × ((n : ℕ) × (word_of w ≡ Head n) × ((n < 1) ⊎ (1000 < n)))
WrongWord EndBits js p w = Whole js p × ((low : ℕ) × (word_of w ≡ Stop low) × (0 < low))
WrongWord WordsRunOut js p w = ⊥
WrongWord OddByte js p w = ⊥
WrongWord NinthByte js p w = ⊥
WrongWord NameDue js p w = ⊥
WrongWord CutLine js p w = ⊥

-- the words ws give the jobs js and then the ending: the end word, whatever stands after it; or the word at the fault's
-- place is wrong; or there is no word left, and no end word came
abbrev pub Reading : List ℕ → List (List Code) → Ending → Type 0
Reading ws js End = (p : List ℕ) × (q : List ℕ) × (ws ≡ p ++ end_word ∷ q) × Whole js p
Reading ws js (Fault f) =
    ((f.place < length ws) × WrongWord f.cause js (take f.place ws) (slice_index ws f.place))
    ⊎ ((f.place ≡ length ws) × (f.cause ≡ WordsRunOut) × (Whole js ws ⊎ Unfinished js ws))

-- words that are read to the end
abbrev pub LawfulWords : List ℕ → Type 0
LawfulWords ws = (js : List (List Code)) × Reading ws js End

-- words that some more words make lawful
abbrev pub Viable : List ℕ → Type 0
Viable p = (q : List ℕ) × LawfulWords (p ++ q)

-- the words ahead of place i can still become lawful, those up to it no more, and the words are not lawful
abbrev pub FirstHopeless : List ℕ → ℕ → Type 0
FirstHopeless ws i = Viable (take i ws) × (i < length ws → Viable (take (i + 1) ws) → ⊥) × (LawfulWords ws → ⊥)

-- the words are these jobs, filler anywhere, and a rest that has no whole lawful job at its start
pub record AsWritten (ws : List ℕ) (js : List (List Code)) : Type 0 where
  pub front : List ℕ
  pub rest : List ℕ
  pub is : ws ≡ front ++ rest
  pub whole : Whole js front
  pub no_job : (j : List Code) (p q : List ℕ) → Whole (j ∷ []) p → rest ≢ p ++ q

-- What is known of the jobs and the ending that words are read as
pub record Understood (ws : List ℕ) (js : List (List Code)) (e : Ending) : Type 0 where
  pub reads : Reading ws js e
  pub only : (ks : List (List Code)) (d : Ending) → Reading ws ks d → (ks ≡ js) × (d ≡ e)
  pub as_written : AsWritten ws js
  pub stuck : (f : TrailFault) → e ≡ Fault f → FirstHopeless ws f.place
