-- A run that exists: a book is opened, fed, drawn, refused a job, entered a third, and drawn again
use Rattle.std.specs.Prelude.{◌≡◌, ℕ, ◌+◌, ◌^◌, List, [], ◌∷◌, ◌++◌, replicate, Ok, Err}
use Rattle.std.proofs.Common.{lit≤}
use Rattle.steps.specs.declared.codes.Code.{Code}
use Rattle.steps.specs.declared.faults.RosterFault.TheVariants.{Unlisted}
use Rattle.steps.specs.Kinds.{code_order}
use Rattle.std.specs.Prelude.{None as End}
use Rattle.book.specs.declared.entries.Entry.TheVariants.{New}
use Rattle.book.specs.declared.faults.EnterFault.TheVariants.{Roster}
use Rattle.flow.specs.Flow.{Jobs}
use Rattle.runs.specs.Examples.{diamond}
use Rattle.runs.specs.Run.{View, Opened, Drawn, Enters, FeedsOn, Drawing}

-- the steps A to D, and one that is not on the roster
abbrev pub A : Code
A = record { unit = 1; code = 20; lawful = (lit≤ tt, lit≤ tt) }

abbrev pub B : Code
B = record { unit = 1; code = 300; lawful = (lit≤ tt, lit≤ tt) }

abbrev pub C : Code
C = record { unit = 2; code = 4; lawful = (lit≤ tt, lit≤ tt) }

abbrev pub D : Code
D = record { unit = 2; code = 50; lawful = (lit≤ tt, lit≤ tt) }

abbrev pub X : Code
X = record { unit = 3; code = 0; lawful = (lit≤ tt, lit≤ tt) }

abbrev pub roster : List Code
roster = A ∷ B ∷ C ∷ D ∷ []

-- the diamond, and then AD
abbrev pub shortcut : Jobs
shortcut = diamond ++ (0 ∷ 3 ∷ []) ∷ []

-- the book after its opening, after the feed, and at the end
abbrev pub open_book : View
open_book = record { steps = 4; memory = (2 ^ 31 + 4) ∷ replicate 15 7; held = [] }

abbrev pub fed_book : View
fed_book = record {
  steps = 4;
  memory = (2 ^ 31 + 4) ∷ (2 ^ 30 + 4) ∷ 0 ∷ 1 ∷ 2 ∷ 3 ∷ (2 ^ 30 + 4) ∷ 0 ∷ 2 ∷ 1 ∷ 3 ∷ replicate 5 7;
  held = diamond;
}

abbrev pub last_book : View
last_book = record {
  steps = 4;
  memory = (2 ^ 31 + 4) ∷ (2 ^ 30 + 4) ∷ 0 ∷ 1 ∷ 2 ∷ 3 ∷ (2 ^ 30 + 4) ∷ 0 ∷ 2 ∷ 1 ∷ 3 ∷ (2 ^ 30 + 2) ∷ 0 ∷ 3 ∷ replicate 2 7;
  held = shortcut;
}

-- the two nets
abbrev pub diamond_words : List ℕ
diamond_words =
    0x10000000 ∷ 0x10000001 ∷ 0x10000002 ∷ 0x10000003 ∷ 0x20000000 ∷ 0x30000003
    ∷ 0x40000000 ∷ 0x50000000 ∷ 0x60000001 ∷ 0x40000001 ∷ 0x50000000 ∷ 0x60000002
    ∷ 0x40000002 ∷ 0x50000001 ∷ 0x60000003 ∷ 0x40000003 ∷ 0x50000002 ∷ 0x60000003 ∷ 0x80000004 ∷ []

abbrev pub shortcut_words : List ℕ
shortcut_words =
    0x10000000 ∷ 0x10000001 ∷ 0x10000002 ∷ 0x10000003 ∷ 0x20000000 ∷ 0x30000003
    ∷ 0x40000000 ∷ 0x50000000 ∷ 0x60000001 ∷ 0x40000001 ∷ 0x50000000 ∷ 0x60000002 ∷ 0x40000002 ∷ 0x50000000 ∷ 0x60000003
    ∷ 0x40000003 ∷ 0x50000001 ∷ 0x60000003 ∷ 0x40000004 ∷ 0x50000002 ∷ 0x60000003 ∷ 0x80000005 ∷ []

-- the memory lent to the draws, before them, after the first and after the second
abbrev pub lent : List ℕ
lent = replicate 24 9

abbrev pub drawn_once : List ℕ
drawn_once = diamond_words ++ replicate 5 9

abbrev pub drawn_twice : List ℕ
drawn_twice = shortcut_words ++ replicate 2 9

-- the calls in turn
pub record Calls : Type 0 where
  pub opening : Opened 4 (replicate 16 7) open_book
  pub feeding : FeedsOn code_order open_book roster ((A ∷ B ∷ C ∷ D ∷ []) ∷ (A ∷ C ∷ B ∷ D ∷ []) ∷ []) End 1000 (Ok 2) [] fed_book
  pub drawing : Drawn fed_book lent drawn_once (Ok 19)
  pub refusing : Enters code_order fed_book roster (A ∷ X ∷ D ∷ []) (Err (Roster (Unlisted 1))) fed_book
  pub entering : Enters code_order fed_book roster (A ∷ D ∷ []) (Ok (New 2)) last_book
  pub redrawing : Drawn last_book drawn_once drawn_twice (Ok 22)

-- the two drawings that come of them
pub record Shown : Type 0 where
  pub calls : Calls
  pub earlier : Drawing code_order roster diamond diamond_words
  pub later : Drawing code_order roster shortcut shortcut_words
  pub apart : diamond_words ≡ shortcut_words → ⊥
