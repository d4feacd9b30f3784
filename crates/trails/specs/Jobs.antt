-- What a trail gives, and what asking it for the next job does
use Rattle.std.specs.Prelude.{◌≡◌, ℕ, ◌^◌, ◌<◌, ◌≤◌, List, [], ◌∷◌, length, take, Some, None, Option, Ok, Err, Result}
use Rattle.trails.specs.declared.endings.TrailFault.{TrailFault}
use Rattle.trails.specs.declared.endings.TrailStop.{TrailStop}
use Rattle.trails.specs.declared.endings.TrailStop.TheVariants.{ShortWork, Fault}

-- each job has 1 event at least and so many at most
abbrev pub SizedTo : {S : Type 0} → ℕ → List (List S) → Type 0
SizedTo most [] = Unit {0}
SizedTo most (j ∷ js) = (1 ≤ length j) × (length j ≤ most) × SizedTo most js

-- each job has 1 to 1,000 events
abbrev pub Sized : {S : Type 0} → List (List S) → Type 0
Sized js = SizedTo 1000 js

-- what the jobs of every trail are
abbrev pub Lawful : {S : Type 0} → List (List S) → Type 0
Lawful js = Sized js × (length js < 2 ^ 64)

-- how a trail ends: whole, or with a fault
abbrev pub Ending : Type 0
Ending = Option TrailFault

-- js and e are the jobs and the ending before a call of `next`, ks and f after it; w and v are the work memory before and after
abbrev pub Next : {S : Type 0} → List (List S) → Ending → List (List S) → Ending → List S → List S → Result (Option ℕ) TrailStop → Type 0
Next js e ks f w v (Ok (Some n)) = (1000 ≤ length w) × (n ≤ 1000) × (js ≡ take n v ∷ ks) × (f ≡ e)
Next js e ks f w v (Ok None) = (1000 ≤ length w) × (None ≡ e) × (js ≡ []) × (ks ≡ []) × (f ≡ e)
Next js e ks f w v (Err ShortWork) = (length w < 1000) × (ks ≡ js) × (f ≡ e)
Next js e ks f w v (Err (Fault x)) = (1000 ≤ length w) × (Some x ≡ e) × (js ≡ []) × (ks ≡ []) × (f ≡ e)
