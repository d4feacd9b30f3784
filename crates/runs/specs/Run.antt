-- Whole runs: every list of calls on a book, from its opening on, with no outsider between them
use Rattle.std.specs.Prelude.{◌≡◌, ℕ, ◌⊎◌, ◌↔◌, List, [], length, take, Ok, Err, Result}
use Rattle.std.specs.declared.cmp.Ordering.{Ordering}
use Rattle.steps.specs.Rosters.{numbers}
use Rattle.trails.specs.Jobs.{Ending}
use Rattle.book.specs.declared.shape.Book.{Book}
use Rattle.book.specs.declared.entries.Entry.{Entry}
use Rattle.book.specs.declared.faults.EnterFault.{EnterFault}
use Rattle.book.specs.declared.faults.FeedFault.{FeedFault}
use Rattle.book.specs.View.{memory_of, held_by, OpenedIn}
use Rattle.book.specs.Enter.{Entered, written}
use Rattle.book.specs.Feed.{Fed, laid}
use Rattle.book.specs.Faults.{enter_refusal, feed_refusal}
use Rattle.flow.specs.Flow.{Jobs}
use Rattle.flow.specs.Facts.{Agree}
use Rattle.net.specs.declared.faults.DrawFault.{DrawFault}
use Rattle.net.specs.Net.{Draws}
use Rattle.net.specs.Draw.{Drew}
use Rattle.runs.specs.Accepted.{after_enter, after_feed}

-- what the calls on a book speak of
pub record View : Type 0 where
  pub steps : ℕ
  pub memory : List ℕ
  pub held : Jobs

abbrev pub view_of : Book → View
view_of b = record { steps = b.steps; memory = memory_of b; held = held_by b }

-- a book that was opened in this memory, as `open` ensures
pub record Opened (steps : ℕ) (words : List ℕ) (v : View) : Type 0 where
  pub steps_are : v.steps ≡ steps
  pub empty : v.held ≡ []
  pub opened : OpenedIn steps words v.memory
  pub long : length v.memory ≡ length words

-- a draw leaves the book as it is; the memory lent to it was `old` and is `new`
abbrev pub Drawn : View → List ℕ → List ℕ → Result ℕ DrawFault → Type 0
Drawn v old new r = Drew v.steps (length v.memory) v.held old new r

-- declined by row 3, since the roster does not fit the book
abbrev pub EnterUnfit : Result Entry EnterFault → Type 0
EnterUnfit (Ok a) = ⊥
EnterUnfit (Err f) = (enter_refusal f).row ≡ 3

abbrev pub FeedUnfit : Result ℕ FeedFault → Type 0
FeedUnfit (Ok n) = ⊥
FeedUnfit (Err f) = (feed_refusal f).row ≡ 3

module _ {S : Type 0} (order : S → S → Ordering) where
  -- an entry, as `enter` ensures
  pub record Enters (v : View) (roster job : List S) (r : Result Entry EnterFault) (v' : View) : Type 0 where
    pub entered : Entered order v.steps (length v.memory) v.held roster job r v'.held
    pub written_is : v'.memory ≡ written v.held (numbers order roster job) r v.memory
    pub long : length v'.memory ≡ length v.memory
    pub steps_stay : v'.steps ≡ v.steps

  -- a feed of a trail that means these jobs and this ending, with w steps of work memory, as `feed` ensures
  pub record FeedsOn (v : View) (roster : List S) (jobs : List (List S)) (ending : Ending) (w : ℕ) (r : Result ℕ FeedFault) (left : List (List S)) (v' : View) : Type 0 where
    pub fed : Fed order v.steps (length v.memory) roster jobs ending w v.held r v'.held left
    pub laid_is : v'.memory ≡ laid v.memory v'.held
    pub long : length v'.memory ≡ length v.memory
    pub steps_stay : v'.steps ≡ v.steps

  module _ (roster : List S) where
    -- A run leaves a book, and tells which jobs were accepted. One roster serves; only a call that row 3 declines brings another.
    pub data Run : View → Jobs → Type 0 where
      opened : {steps : ℕ} {words : List ℕ} {v : View} → Opened steps words v → Run v []
      entered : {v v' : View} {js : Jobs} {R job : List S} {r : Result Entry EnterFault}
          → Run v js → (R ≡ roster) ⊎ EnterUnfit r → Enters v R job r v' → Run v' (after_enter order js R job r)
      fed : {v v' : View} {js : Jobs} {R : List S} {jobs left : List (List S)} {ending : Ending} {w : ℕ} {r : Result ℕ FeedFault}
          → Run v js → (R ≡ roster) ⊎ FeedUnfit r → FeedsOn v R jobs ending w r left v' → Run v' (after_feed order js R jobs r)
      drawn : {v : View} {js : Jobs} → (old new : List ℕ) (r : Result ℕ DrawFault)
          → Run v js → Drawn v old new r → Run v js

    -- a net that is drawn at the end of a run in which these jobs were accepted
    pub record Drawing (js : Jobs) (ws : List ℕ) : Type 0 where
      pub book : View
      pub run : Run book js
      pub old : List ℕ
      pub new : List ℕ
      pub count : ℕ
      pub draw : Drawn book old new (Ok count)
      pub is : ws ≡ take count new

    -- The law over runs: each drawn net is the net of the jobs accepted up to it, and two are equal exactly when those jobs agree on the five facts
    abbrev pub Law : Type 0
    Law =
        ((js : Jobs) (ws : List ℕ) → Drawing js ws → Draws js ws)
        × ((js ks : Jobs) (ws vs : List ℕ) → Drawing js ws → Drawing ks vs → (ws ≡ vs) ↔ Agree js ks)
