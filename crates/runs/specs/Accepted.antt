-- The accepted jobs of a book, told by its calls and their answers alone
use Rattle.std.specs.Prelude.{ℕ, Bool, true, false, cond, ◌&&◌, List, [], ◌∷◌, ◌++◌, map, take, Ok, Err, Result, ◌==◌}
use Rattle.std.specs.declared.cmp.Ordering.{Ordering}
use Rattle.steps.specs.Rosters.{numbers}
use Rattle.book.specs.declared.entries.Entry.{Entry}
use Rattle.book.specs.declared.faults.EnterFault.{EnterFault}
use Rattle.book.specs.declared.faults.FeedFault.{FeedFault}
use Rattle.book.specs.Faults.{feed_refusal}
use Rattle.flow.specs.Flow.{Jobs, some}

abbrev pub equal_jobs : List ℕ → List ℕ → Bool
equal_jobs [] [] = true
equal_jobs [] (y ∷ ys) = false
equal_jobs (x ∷ xs) [] = false
equal_jobs (x ∷ xs) (y ∷ ys) = x == y && equal_jobs xs ys

-- an accepted job goes to the end unless an equal one is there
abbrev pub accept : Jobs → List ℕ → Jobs
accept js job = cond (some (equal_jobs job) js) js (js ++ job ∷ [])

abbrev pub accept_all : Jobs → Jobs → Jobs
accept_all js [] = js
accept_all js (job ∷ more) = accept_all (accept js job) more

-- how many jobs a feed accepted: its answer, or the job of its refusal
abbrev pub accepted_by : Result ℕ FeedFault → ℕ
accepted_by (Ok n) = n
accepted_by (Err f) = (feed_refusal f).job

module _ {S : Type 0} (order : S → S → Ordering) where
  -- the accepted jobs after an entry, and after a feed of these jobs
  abbrev pub after_enter : Jobs → List S → List S → Result Entry EnterFault → Jobs
  after_enter js roster job (Ok a) = accept js (numbers order roster job)
  after_enter js roster job (Err f) = js

  abbrev pub after_feed : Jobs → List S → List (List S) → Result ℕ FeedFault → Jobs
  after_feed js roster jobs r = accept_all js (map (numbers order roster) (take (accepted_by r) jobs))
