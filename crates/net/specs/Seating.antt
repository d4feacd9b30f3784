-- The places of looping steps, as rows tell them
use Rattle.std.specs.Prelude.{◌≡◌, ℕ, ◌+◌, ◌<◌, Bool, true, false, ◌&&◌, List, slice_index}
use Rattle.flow.specs.declared.relations.Relations.{Relations}
use Rattle.flow.specs.Bits.{bit}
use Rattle.flow.specs.Flow.{some}
use Rattle.flow.specs.Rows.{only_before_by, only_after_by}
use Rattle.net.specs.Net.{steps, same, every, position}

-- the place has exactly the feeders that pass the one test, and the fed steps that pass the other
unfoldable pub between : (ℕ → Bool) → (ℕ → Bool) → ℕ → Bool
between from to g = every (λ s. same (bit g s) (from s) && same (bit g (32 + s)) (to s)) steps

-- the step t sits on the place
abbrev pub sits_by : Relations → ℕ → ℕ → Bool
sits_by r t = between (only_before_by r t) (only_after_by r t)

-- each looping step below n sits on a place, whose number is its seat
abbrev pub SeatsBelow : Relations → List ℕ → List ℕ → ℕ → Type 0
SeatsBelow r groups seats n = (t : ℕ) → t < n → bit r.looping t ≡ true → (some (sits_by r t) groups ≡ true) × (slice_index seats t ≡ position (sits_by r t) groups)

-- t is the lowest looping step that sits on none of the places
pub record LowestBy (r : Relations) (groups : List ℕ) (t : ℕ) : Type 0 where
  pub step : t < 32
  pub loops : bit r.looping t ≡ true
  pub unseated : some (sits_by r t) groups ≡ false
  pub lowest : (s : ℕ) → s < t → bit r.looping s ≡ true → some (sits_by r s) groups ≡ true
