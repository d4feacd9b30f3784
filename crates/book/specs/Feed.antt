-- What a feed answers, and what the book holds after it
use Rattle.std.specs.Prelude.{◌≡◌, ℕ, ◌+◌, ◌<◌, ◌≤◌, ◌⊎◌, List, [], ◌∷◌, ◌++◌, length, Option, Ok, Err, Result, IsOk, IsErr, IfErr}
use Rattle.std.proofs.Math.Seq.{paste}
use Rattle.std.specs.declared.cmp.Ordering.{Ordering}
use Rattle.steps.specs.declared.faults.RosterFault.TheVariants.{Unfit, Unlisted}
use Rattle.steps.specs.Rosters.{Fit}
use Rattle.trails.specs.Jobs.{Ending}
use Rattle.std.specs.Prelude.{None as End, Some as Fault}
use Rattle.trails.specs.declared.endings.TrailStop.{TrailStop}
use Rattle.trails.specs.declared.endings.TrailStop.TheVariants.{ShortWork as Short, Fault as Stopped}
use Rattle.book.specs.declared.entries.Entry.{Entry}
use Rattle.book.specs.declared.faults.EnterFault.TheVariants as enter
use Rattle.book.specs.declared.faults.FeedFault.{FeedFault}
use Rattle.book.specs.declared.faults.FeedFault.TheVariants.{Void, Roster, ShortWork, Trail, Room}
use Rattle.book.specs.Enter.{Entered, VoidBy}
use Rattle.book.specs.Faults.{feed_stop}
use Rattle.book.specs.Jobs.{encode, Opens}

-- the memory with the words of these jobs after its first word
abbrev pub laid : List ℕ → List (List ℕ) → List ℕ
laid ws js = paste ws 1 (encode js) (length (encode js))

-- what the end of a trail is to a feed after k jobs
abbrev pub Closed : Ending → ℕ → Result ℕ FeedFault → Type 0
Closed End k r = r ≡ Ok k
Closed (Fault f) k r = r ≡ Err (Trail f k)

-- a feed's answer, with m jobs more accepted ahead of it
abbrev pub later : ℕ → Result ℕ FeedFault → Result ℕ FeedFault
later m (Ok n) = Ok (m + n)
later m (Err (Void v)) = Err (Void v)
later m (Err (Roster f n)) = Err (Roster f (m + n))
later m (Err ShortWork) = Err ShortWork
later m (Err (Trail f n)) = Err (Trail f (m + n))
later m (Err (Room n)) = Err (Room (m + n))

module _ {S : Type 0} (order : S → S → Ordering) (steps len : ℕ) (roster : List S) where
  -- the job after k others is declined by rows 5 or 6, as entering it would be
  abbrev pub Declined : List (List ℕ) → List S → ℕ → Result ℕ FeedFault → Type 0
  Declined hs job k (Ok n) = ⊥
  Declined hs job k (Err (Void v)) = ⊥
  Declined hs job k (Err (Roster f n)) = (n ≡ k) × Entered order steps len hs roster job (Err (enter.Roster f)) hs
  Declined hs job k (Err ShortWork) = ⊥
  Declined hs job k (Err (Trail f n)) = ⊥
  Declined hs job k (Err (Room n)) = (n ≡ k) × Entered order steps len hs roster job (Err enter.Room) hs

  -- The jobs are entered one after the other, after k others, up to the first that is declined, or else up to the ending: hs are the jobs held before and hs' after, and left are the jobs that the trail then has
  abbrev pub Feeds : List (List S) → Ending → ℕ → List (List ℕ) → Result ℕ FeedFault → List (List ℕ) → List (List S) → Type 0
  Feeds [] e k hs r hs' left = Closed e k r × (hs' ≡ hs) × (left ≡ [])
  Feeds (j ∷ js) e k hs r hs' left =
      ((a : Entry) × (more : List (List ℕ)) × Entered order steps len hs roster j (Ok a) more × Feeds js e (k + 1) more r hs' left)
      ⊎ (Declined hs j k r × (hs' ≡ hs) × (left ≡ js))

  -- jobs that are fed after others, which were fed to their end, are fed as all of them together would be
  abbrev pub Together : List (List S) → Ending → List (List ℕ) → Result ℕ FeedFault → List (List ℕ) → List (List S) → Type 0
  Together js e hs r hs' left =
      (earlier : List (List S)) (before : List (List ℕ)) (m : ℕ) → Feeds earlier End 0 before (Ok m) hs [] → Feeds js e 0 hs r hs' left → Feeds (earlier ++ js) e 0 before (later m r) hs' left

  -- a feed's answer, row by row: a void book's row, 3, 7, then 8, 5, 6 for each job; w is the length of the work memory
  abbrev pub Fed : List (List S) → Ending → ℕ → List (List ℕ) → Result ℕ FeedFault → List (List ℕ) → List (List S) → Type 0
  Fed js e w hs (Err (Void v)) hs' left = VoidBy steps len v × (hs' ≡ hs) × (left ≡ js)
  Fed js e w hs (Err (Roster Unfit n)) hs' left = Opens steps len × (Fit order roster steps → ⊥) × (n ≡ 0) × (hs' ≡ hs) × (left ≡ js)
  Fed js e w hs (Err ShortWork) hs' left = Opens steps len × Fit order roster steps × (w < 1000) × (hs' ≡ hs) × (left ≡ js)
  Fed js e w hs (Ok n) hs' left = Opens steps len × Fit order roster steps × (1000 ≤ w) × Feeds js e 0 hs (Ok n) hs' left
  Fed js e w hs (Err (Roster (Unlisted p) n)) hs' left = Opens steps len × Fit order roster steps × (1000 ≤ w) × Feeds js e 0 hs (Err (Roster (Unlisted p) n)) hs' left
  Fed js e w hs (Err (Trail f n)) hs' left = Opens steps len × Fit order roster steps × (1000 ≤ w) × Feeds js e 0 hs (Err (Trail f n)) hs' left
  Fed js e w hs (Err (Room n)) hs' left = Opens steps len × Fit order roster steps × (1000 ≤ w) × Feeds js e 0 hs (Err (Room n)) hs' left

  -- the rows ahead of the jobs
  abbrev pub Ready : {A : Type 0} → ℕ → Result A FeedFault → Type 0
  Ready w (Ok _) = Opens steps len × Fit order roster steps × (1000 ≤ w)
  Ready w (Err (Void v)) = VoidBy steps len v
  Ready w (Err (Roster Unfit n)) = Opens steps len × (Fit order roster steps → ⊥) × (n ≡ 0)
  Ready w (Err (Roster (Unlisted p) n)) = ⊥
  Ready w (Err ShortWork) = Opens steps len × Fit order roster steps × (w < 1000)
  Ready w (Err (Trail f n)) = ⊥
  Ready w (Err (Room n)) = ⊥

  -- one job of a feed: entered, or declined
  abbrev pub Took : List (List ℕ) → List S → Result Entry FeedFault → List (List ℕ) → Type 0
  Took hs job (Ok a) hs' = Entered order steps len hs roster job (Ok a) hs'
  Took hs job (Err (Void v)) hs' = ⊥
  Took hs job (Err (Roster f n)) hs' = (n ≡ 0) × Entered order steps len hs roster job (Err (enter.Roster f)) hs'
  Took hs job (Err ShortWork) hs' = ⊥
  Took hs job (Err (Trail f n)) hs' = ⊥
  Took hs job (Err (Room n)) hs' = (n ≡ 0) × Entered order steps len hs roster job (Err enter.Room) hs'

-- what a trail that gave no job says to a feed after k jobs
abbrev pub Ends : Result (Option ℕ) TrailStop → ℕ → Result ℕ FeedFault → Type 0
Ends (Ok n) k r = Closed End k r
Ends (Err Short) k r = Unit {0}
Ends (Err (Stopped f)) k r = Closed (Fault f) k r

-- the same, ahead of all jobs
abbrev pub Checked : {A : Type 0} → Result (Option ℕ) TrailStop → Result A FeedFault → Type 0
Checked (Ok n) r = IsOk r
Checked (Err stop) r = IfErr r (λ f. f ≡ feed_stop stop) × IsErr r
