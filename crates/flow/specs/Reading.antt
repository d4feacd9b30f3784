-- What is noted of jobs as their words are read
use Rattle.std.specs.Prelude.{◌≡◌, ℕ, ◌^◌, ◌<◌, ◌≤◌, Bool, false, not, ◌&&◌, ◌||◌, List, [], ◌∷◌, map, length, MatchBool, filter, ◌==◌, bit_or}
use Rattle.flow.specs.declared.tally.Tally.{Tally}
use Rattle.flow.specs.Bits.{bit, row}
use Rattle.flow.specs.Flow.{Jobs, some, has, begins, ends, next, three}

-- the set with s, and the rows with a set added to row s
abbrev pub Added : ℕ → ℕ → ℕ → Type 0
Added old s new = (p : ℕ) → bit new p ≡ (bit old p || s == p)

abbrev pub Joined : List ℕ → ℕ → ℕ → List ℕ → Type 0
Joined old s set new = (a b : ℕ) → row new a b ≡ (row old a b || (s == a && bit set b))

-- there is a row for each of the steps 0 to 31, and no other number is in a set
abbrev pub Bounded : Tally → Type 0
Bounded t = (length t.followed ≡ 32) × (length t.returns ≡ 32) × (t.seen < 2 ^ 32) × (t.looping < 2 ^ 32) × (t.first < 2 ^ 32) × (t.last < 2 ^ 32)

-- what one event more of the job being read changes
pub record Noted (old : Tally) (s : ℕ) (new : Tally) : Type 0 where
  pub seen_is : Added old.seen s new.seen
  pub looping_is : MatchBool (bit old.latest s) (Added old.looping s new.looping) (new.looping ≡ old.looping)
  pub first_is : MatchBool (old.latest == 0) (Added old.first s new.first) (new.first ≡ old.first)
  pub last_is : new.last ≡ old.last
  pub followed_is : Joined old.followed s old.latest new.followed
  pub returns_is : MatchBool (bit old.earlier s) (Joined old.returns s old.latest new.returns) (new.returns ≡ old.returns)
  pub latest_is : Added 0 s new.latest
  pub earlier_is : new.earlier ≡ old.latest

-- what the end of the job being read changes
pub record Ended (old new : Tally) : Type 0 where
  pub seen_is : new.seen ≡ old.seen
  pub looping_is : new.looping ≡ old.looping
  pub first_is : new.first ≡ old.first
  pub last_is : new.last ≡ bit_or old.last old.latest
  pub followed_is : new.followed ≡ old.followed
  pub returns_is : new.returns ≡ old.returns
  pub latest_is : new.latest ≡ 0
  pub earlier_is : new.earlier ≡ 0

-- what a word changes: a step is an event unless it is left out, and any other word is the head of the next job
pub record Took (left : ℕ) (old : Tally) (w : ℕ) (new : Tally) : Type 0 where
  pub event : w < 32 → MatchBool (bit left w) (new ≡ old) (Noted old w new)
  pub head : 32 ≤ w → Ended old new

-- jobs in part: those that have ended, and the one being read as far as it is read
pub record Part : Type 0 where
  pub past : Jobs
  pub present : List ℕ

-- whole jobs
abbrev pub whole : Jobs → Part
whole js = record { past = js; present = [] }

-- some job passes the test
abbrev pub told : (List ℕ → Bool) → Part → Bool
told t r = t r.present || some t r.past

-- the last event but one is s
abbrev pub ends_earlier : ℕ → List ℕ → Bool
ends_earlier s [] = false
ends_earlier s (x ∷ []) = false
ends_earlier s (x ∷ (y ∷ [])) = x == s
ends_earlier s (x ∷ (y ∷ (z ∷ zs))) = ends_earlier s (y ∷ (z ∷ zs))

-- the tally is that of these jobs
pub record Tallies (r : Part) (t : Tally) : Type 0 where
  pub seen_is : (s : ℕ) → bit t.seen s ≡ told (has s) r
  pub looping_is : (s : ℕ) → bit t.looping s ≡ told (next s s) r
  pub first_is : (s : ℕ) → bit t.first s ≡ told (begins s) r
  pub last_is : (s : ℕ) → bit t.last s ≡ some (ends s) r.past
  pub followed_is : (a b : ℕ) → row t.followed b a ≡ told (next a b) r
  pub returns_is : (a b : ℕ) → row t.returns a b ≡ told (three a b a) r
  pub latest_is : (s : ℕ) → bit t.latest s ≡ ends s r.present
  pub earlier_is : (s : ℕ) → bit t.earlier s ≡ ends_earlier s r.present

-- the jobs without the steps of a set
abbrev pub without : ℕ → Jobs → Jobs
without left js = map (filter (λ s. not (bit left s))) js
