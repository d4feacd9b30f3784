-- What a book holds
use Rattle.std.specs.Prelude.{◌≡◌, ℕ, ◌+◌, ◌^◌, List, length, slice_set}
use Rattle.book.specs.declared.shape.Book.{Book}
use Rattle.book.specs.Jobs.{held, Opens}

-- its lent memory
abbrev pub memory_of : Book → List ℕ
memory_of b = b.words.now

-- its jobs, in the order of their numbers
abbrev pub held_by : Book → List (List ℕ)
held_by b = held b.used b.words.now

-- a book after a call: it is for as many steps, and in the same lent memory
pub record Stays (b b' : Book) : Type 0 where
  pub steps : b'.steps ≡ b.steps
  pub long : length (memory_of b') ≡ length (memory_of b)
  pub named : b'.words.ghost_name ≡ b.words.ghost_name

-- the memory of a book that was opened for so many steps in these words: word 0 is written, and in a void book nothing
abbrev pub OpenedIn : ℕ → List ℕ → List ℕ → Type 0
OpenedIn steps words memory = (Opens steps (length words) → memory ≡ slice_set words 0 (2 ^ 31 + steps)) × ((Opens steps (length words) → ⊥) → memory ≡ words)
