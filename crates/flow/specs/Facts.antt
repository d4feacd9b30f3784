-- The five facts of jobs, on which nets rest. Steps are the numbers below 32.
use Rattle.std.specs.Prelude.{◌≡◌, ℕ, ◌<◌, true, ◌⊎◌, ◌≢◌}
use Rattle.flow.specs.Flow.{Jobs, seen, looping, first, last, feeds, unrelated, only_before, only_after}

-- the steps seen
abbrev pub SameSeen : Jobs → Jobs → Type 0
SameSeen js ks = (s : ℕ) → s < 32 → seen js s ≡ seen ks s

-- the looping steps, each with its only-before and its only-after
pub record SameLoops (js ks : Jobs) : Type 0 where
  pub steps : (t : ℕ) → t < 32 → looping js t ≡ looping ks t
  pub befores : (t s : ℕ) → t < 32 → s < 32 → looping js t ≡ true → only_before js t s ≡ only_before ks t s
  pub afters : (t s : ℕ) → t < 32 → s < 32 → looping js t ≡ true → only_after js t s ≡ only_after ks t s

-- the first and the last steps of the reduced jobs
pub record SameEnds (js ks : Jobs) : Type 0 where
  pub firsts : (s : ℕ) → s < 32 → first js s ≡ first ks s
  pub lasts : (s : ℕ) → s < 32 → last js s ≡ last ks s

-- which step feeds which
abbrev pub SameFeeds : Jobs → Jobs → Type 0
SameFeeds js ks = (a b : ℕ) → a < 32 → b < 32 → feeds js a b ≡ feeds ks a b

-- two different steps that feed a common step, or are fed by one
abbrev pub Akin : Jobs → ℕ → ℕ → Type 0
Akin js a b = (a ≢ b) × ((c : ℕ) × (c < 32) × (((feeds js a c ≡ true) × (feeds js b c ≡ true)) ⊎ ((feeds js c a ≡ true) × (feeds js c b ≡ true))))

-- for steps that are so in both, whether they are unrelated
abbrev pub SameKin : Jobs → Jobs → Type 0
SameKin js ks = (a b : ℕ) → a < 32 → b < 32 → Akin js a b → Akin ks a b → unrelated js a b ≡ unrelated ks a b

-- the jobs agree on the five facts
pub record Agree (js ks : Jobs) : Type 0 where
  pub same_seen : SameSeen js ks
  pub same_loops : SameLoops js ks
  pub same_ends : SameEnds js ks
  pub same_feeds : SameFeeds js ks
  pub same_kin : SameKin js ks
