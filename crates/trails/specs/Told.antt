-- What a reader makes of a trail that is written out: its jobs and its ending
use Rattle.std.specs.Prelude.{ℕ, List, [], ◌∷◌, ◌++◌, Some, None}
use Rattle.trails.specs.declared.endings.Cause.{Cause}
use Rattle.trails.specs.Jobs.{Ending}

pub record Told (S : Type 0) : Type 0 where
  pub jobs : List (List S)
  pub ending : Ending

-- no job more
abbrev pub over : {S : Type 0} → Ending → Told S
over e = record { jobs = []; ending = e }

abbrev pub ended : {S : Type 0} → Told S
ended = over None

abbrev pub faulty : {S : Type 0} → Cause → ℕ → Told S
faulty cause place = over (Some (record { cause = cause; place = place }))

-- a job ahead of what is told
abbrev pub first : {S : Type 0} → List S → Told S → Told S
first j t = record { jobs = j ∷ t.jobs; ending = t.ending }

-- jobs ahead of what is told
abbrev pub after : {S : Type 0} → List (List S) → Told S → Told S
after js t = record { jobs = js ++ t.jobs; ending = t.ending }
