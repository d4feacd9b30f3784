-- The five numbers of what a call on a book declines
use Rattle.std.specs.Prelude.{ℕ}
use Rattle.refusals.specs.declared.Refusal.{Refusal}
use Rattle.steps.specs.Faults.{refusal_of}
use Rattle.trails.specs.Faults.{fault_refusal}
use Rattle.book.specs.declared.faults.Void as void
use Rattle.book.specs.declared.faults.EnterFault as enter
use Rattle.book.specs.declared.faults.FeedFault as feed
use Rattle.trails.specs.declared.endings.TrailStop as stop

abbrev book_row : ℕ → Refusal
book_row r = record { row = r; layer = 3; job = 0; place = 0; cause = 0 }

-- the same numbers, of another job
abbrev pub of_job : Refusal → ℕ → Refusal
of_job r n = record { row = r.row; layer = r.layer; job = n; place = r.place; cause = r.cause }

abbrev pub void_refusal : void.Void → Refusal
void_refusal void.TheVariants.Steps = book_row 1
void_refusal void.TheVariants.Memory = book_row 2

abbrev pub enter_refusal : enter.EnterFault → Refusal
enter_refusal (enter.TheVariants.Void v) = void_refusal v
enter_refusal (enter.TheVariants.Roster f) = refusal_of f
enter_refusal enter.TheVariants.Events = book_row 4
enter_refusal enter.TheVariants.Room = book_row 6

-- the job of a feed's refusal is the number of jobs that it accepted
abbrev pub feed_refusal : feed.FeedFault → Refusal
feed_refusal (feed.TheVariants.Void v) = void_refusal v
feed_refusal (feed.TheVariants.Roster f n) = of_job (refusal_of f) n
feed_refusal feed.TheVariants.ShortWork = book_row 7
feed_refusal (feed.TheVariants.Trail f n) = of_job (fault_refusal f) n
feed_refusal (feed.TheVariants.Room n) = of_job (book_row 6) n

-- what a feed makes of a trail that stops, ahead of all jobs
abbrev pub feed_stop : stop.TrailStop → feed.FeedFault
feed_stop stop.TheVariants.ShortWork = feed.TheVariants.ShortWork
feed_stop (stop.TheVariants.Fault f) = feed.TheVariants.Trail f 0

-- the fault after so many jobs
abbrev pub at_job : feed.FeedFault → ℕ → feed.FeedFault
at_job (feed.TheVariants.Void v) n = feed.TheVariants.Void v
at_job (feed.TheVariants.Roster f m) n = feed.TheVariants.Roster f n
at_job feed.TheVariants.ShortWork n = feed.TheVariants.ShortWork
at_job (feed.TheVariants.Trail f m) n = feed.TheVariants.Trail f n
at_job (feed.TheVariants.Room m) n = feed.TheVariants.Room n
