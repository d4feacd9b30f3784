-- What a word says, and how jobs are written as words
use Rattle.std.specs.Prelude.{ℕ, ◌+◌, ◌*◌, ◌/◌, ◌%◌, ◌^◌, cond, List, [], ◌∷◌, ◌++◌, map, length, ◌==◌}
use Rattle.std.proofs.Common.{arith}
use Rattle.steps.specs.declared.codes.Code.{Code}
use Rattle.words.specs.declared.kinds.Word.{Word}
use Rattle.words.specs.declared.kinds.Word.TheVariants.{Event, Head, Stop, Filler}

-- the unit in bits 24 to 29, the code in bits 0 to 23
abbrev pub code_of : ℕ → Code
code_of w = record { unit = (w / 2 ^ 24) % 64; code = w % 2 ^ 24; lawful = (omega arith, omega arith) }

-- the top two bits tell the kind; the other thirty are the low bits
abbrev pub word_of : ℕ → Word
word_of w =
    cond (w / 2 ^ 30 == 0) (Event (code_of w))
    (cond (w / 2 ^ 30 == 1) (Head (w % 2 ^ 30))
    (cond (w / 2 ^ 30 == 2) (Stop (w % 2 ^ 30)) Filler))

-- the word of an event
abbrev pub event_word : Code → ℕ
event_word c = c.unit * 2 ^ 24 + c.code

-- the word ahead of a job's events, with their number
abbrev pub head_word : ℕ → ℕ
head_word n = 2 ^ 30 + n

-- the word that ends a trail
abbrev pub end_word : ℕ
end_word = 2 ^ 31

abbrev pub job_words : List Code → List ℕ
job_words j = head_word (length j) ∷ map event_word j

-- jobs one after the other, with no filler
abbrev pub written : List (List Code) → List ℕ
written [] = []
written (j ∷ js) = job_words j ++ written js

-- a word ahead of others, unless it is filler
abbrev pub unless_filler : Word → ℕ → List ℕ → List ℕ
unless_filler (Event c) w ws = w ∷ ws
unless_filler (Head n) w ws = w ∷ ws
unless_filler (Stop n) w ws = w ∷ ws
unless_filler Filler w ws = ws

-- words without the filler among them
abbrev pub stripped : List ℕ → List ℕ
stripped [] = []
stripped (w ∷ ws) = unless_filler (word_of w) w (stripped ws)
