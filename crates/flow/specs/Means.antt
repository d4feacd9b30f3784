-- What each relation says, by positions in jobs
use Rattle.std.specs.Prelude.{◌≡◌, ℕ, ◌+◌, ◌<◌, ◌⊎◌, [], length, get_or, Decides, ◌≢◌, slice_index_or}
use Rattle.flow.specs.Flow.{Jobs, seen, looping, reduced, stands, first, last, precedes, turn, leads, unrelated, beside, feeds, before, after, only_before, only_after}

-- the event k of the job i is the step s
pub record At (js : Jobs) (i k s : ℕ) : Type 0 where
  pub job : i < length js
  pub event : k < length (slice_index_or js i [])
  pub step : get_or (slice_index_or js i []) k 0 ≡ s

-- s stands somewhere; b stands right after a somewhere; a b c stand one after the other somewhere
abbrev pub Somewhere : Jobs → ℕ → Type 0
Somewhere js s = (i k : ℕ) × At js i k s

abbrev pub Follows : Jobs → ℕ → ℕ → Type 0
Follows js a b = (i k : ℕ) × At js i k a × At js i (k + 1) b

abbrev pub InTurn : Jobs → ℕ → ℕ → ℕ → Type 0
InTurn js a b c = (i k : ℕ) × At js i k a × At js i (k + 1) b × At js i (k + 2) c

-- s is the first event, the last event of some job
abbrev pub Begins : Jobs → ℕ → Type 0
Begins js s = (i : ℕ) × At js i 0 s

abbrev pub Ends : Jobs → ℕ → Type 0
Ends js s = (i k : ℕ) × At js i k s × (length (slice_index_or js i []) ≡ k + 1)

-- they are different, and a b a and b a b stand somewhere in the reduced jobs
abbrev pub Turn : Jobs → ℕ → ℕ → Type 0
Turn js a b = (a ≢ b) × InTurn (reduced js) a b a × InTurn (reduced js) b a b

abbrev pub Leads : Jobs → ℕ → ℕ → Type 0
Leads js a b = Follows (reduced js) a b × ((Follows (reduced js) b a → ⊥) ⊎ Turn js a b)

-- s is not looping, and stands right before the step t, right after it
abbrev pub Before : Jobs → ℕ → ℕ → Type 0
Before js t s = Follows js s t × (Follows js s s → ⊥)

abbrev pub After : Jobs → ℕ → ℕ → Type 0
After js t s = Follows js t s × (Follows js s s → ⊥)

-- in a job as it is held, a and later b, neither of them looping, and nothing between them but looping steps
abbrev pub FollowsIn : Jobs → ℕ → ℕ → Type 0
FollowsIn js a b = (i k l : ℕ) × (k < l) × At js i k a × At js i l b × (Follows js a a → ⊥) × (Follows js b b → ⊥) × ((m s : ℕ) → k < m → m < l → At js i m s → Follows js s s)

-- each relation of the jobs is its sentence
pub record Means (js : Jobs) : Type 0 where
  pub seen_is : (s : ℕ) → Decides (seen js s) (Somewhere js s)
  pub looping_is : (s : ℕ) → Decides (looping js s) (Follows js s s)
  pub stands_is : (s : ℕ) → Decides (stands js s) (Somewhere (reduced js) s)
  pub first_is : (s : ℕ) → Decides (first js s) (Begins (reduced js) s)
  pub last_is : (s : ℕ) → Decides (last js s) (Ends (reduced js) s)
  pub precedes_is : (a b : ℕ) → Decides (precedes js a b) (Follows (reduced js) a b)
  pub precedes_held_is : (a b : ℕ) → Decides (precedes js a b) (FollowsIn js a b)
  pub turn_is : (a b : ℕ) → Decides (turn js a b) (Turn js a b)
  pub leads_is : (a b : ℕ) → Decides (leads js a b) (Leads js a b)
  pub unrelated_is : (a b : ℕ) → Decides (unrelated js a b) ((Follows (reduced js) a b → ⊥) × (Follows (reduced js) b a → ⊥))
  pub beside_is : (a b : ℕ) → Decides (beside js a b) (Follows (reduced js) a b × Follows (reduced js) b a × (Turn js a b → ⊥))
  pub feeds_is : (a b : ℕ) → Decides (feeds js a b) (Leads js a b × (Follows (reduced js) a a → ⊥) × (Follows (reduced js) b b → ⊥))
  pub before_is : (t s : ℕ) → Decides (before js t s) (Before js t s)
  pub after_is : (t s : ℕ) → Decides (after js t s) (After js t s)
  pub only_before_is : (t s : ℕ) → Decides (only_before js t s) (Before js t s × (After js t s → ⊥))
  pub only_after_is : (t s : ℕ) → Decides (only_after js t s) (After js t s × (Before js t s → ⊥))
