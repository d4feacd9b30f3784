-- The relations of jobs as rows of bits
use Rattle.std.specs.Prelude.{◌≡◌, ℕ, Bool, not, ◌&&◌}
use Rattle.flow.specs.declared.relations.Relations.{Relations}
use Rattle.flow.specs.Bits.{bit, row}
use Rattle.flow.specs.Flow.{Jobs, seen, looping, first, last, follows, precedes, returns}

-- the rows are those of the jobs
pub record Shows (js : Jobs) (r : Relations) : Type 0 where
  pub seen_is : (s : ℕ) → bit r.seen s ≡ seen js s
  pub looping_is : (s : ℕ) → bit r.looping s ≡ looping js s
  pub first_is : (s : ℕ) → bit r.first s ≡ first js s
  pub last_is : (s : ℕ) → bit r.last s ≡ last js s
  pub follows_is : (a b : ℕ) → row r.follows a b ≡ follows js a b
  pub followed_is : (a b : ℕ) → row r.followed b a ≡ follows js a b
  pub precedes_is : (a b : ℕ) → row r.precedes a b ≡ precedes js a b
  pub returns_is : (a b : ℕ) → row r.returns a b ≡ returns js a b

-- what the rows say of a step that stands in reduced jobs, and of the neighbours of a step t in held jobs
abbrev pub stands_by : Relations → ℕ → Bool
stands_by r s = bit r.seen s && not (bit r.looping s)

abbrev pub before_by : Relations → ℕ → ℕ → Bool
before_by r t s = row r.followed t s && not (bit r.looping s)

abbrev pub after_by : Relations → ℕ → ℕ → Bool
after_by r t s = row r.follows t s && not (bit r.looping s)

abbrev pub only_before_by : Relations → ℕ → ℕ → Bool
only_before_by r t s = before_by r t s && not (after_by r t s)

abbrev pub only_after_by : Relations → ℕ → ℕ → Bool
only_after_by r t s = after_by r t s && not (before_by r t s)
