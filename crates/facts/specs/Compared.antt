-- Which of the five facts differ, by rows of bits
use Rattle.std.specs.Prelude.{◌≡◌, ℕ, ◌<◌, Bool, true, false, ◌⊎◌, ◌↔◌, ◌≢◌}
use Rattle.flow.specs.Bits.{bit, row}
use Rattle.flow.specs.Flow.{feeds_of, unrelated_of}
use Rattle.flow.specs.Rows.{only_before_by, only_after_by}
use Rattle.flow.specs.declared.relations.Relations.{Relations}
use Rattle.facts.specs.declared.both.Both.{Both}
use Rattle.facts.specs.declared.shape.Differences.{Differences}

-- which step feeds which, and which are unrelated
abbrev pub feeds_by : Relations → ℕ → ℕ → Bool
feeds_by r = feeds_of (row r.precedes) (row r.returns)

abbrev pub unrelated_by : Relations → ℕ → ℕ → Bool
unrelated_by r = unrelated_of (row r.precedes) (row r.returns)

-- two tests of steps, and of pairs of steps, are the same
abbrev pub SameSteps : (f g : ℕ → Bool) → Type 0
SameSteps f g = (s : ℕ) → s < 32 → f s ≡ g s

abbrev pub SamePairs : (f g : ℕ → ℕ → Bool) → Type 0
SamePairs f g = (a : ℕ) → a < 32 → SameSteps (f a) (g a)

-- if the step t loops by l, the steps before it are the same by b and c, and those after it by a and d
abbrev pub SameIfLooping : (l : ℕ → Bool) (b c a d : ℕ → ℕ → Bool) → ℕ → Type 0
SameIfLooping l b c a d t = l t ≡ true → SameSteps (b t) (c t) × SameSteps (a t) (d t)

-- the looping steps are the same by l and m, and each has the same steps before it and after it
abbrev pub SameLooping : (l m : ℕ → Bool) (b c a d : ℕ → ℕ → Bool) → Type 0
SameLooping l m b c a d = SameSteps l m × ((t : ℕ) → t < 32 → SameIfLooping l b c a d t)

-- a and b both feed c, or both are fed by it
abbrev pub Common : (f : ℕ → ℕ → Bool) → ℕ → ℕ → ℕ → Type 0
Common f a b c = ((f a c ≡ true) × (f b c ≡ true)) ⊎ ((f c a ≡ true) × (f c b ≡ true))

-- two different steps that feed a common step, or are fed by one
abbrev pub AkinOf : (f : ℕ → ℕ → Bool) → ℕ → ℕ → Type 0
AkinOf f a b = (a ≢ b) × ((c : ℕ) × (c < 32) × Common f a b c)

-- u and v are the same at steps that are akin by f and by g
abbrev pub SameIfAkin : (f g u v : ℕ → ℕ → Bool) → ℕ → ℕ → Type 0
SameIfAkin f g u v a b = AkinOf f a b → AkinOf g a b → u a b ≡ v a b

abbrev pub SameWhereAkin : (f g u v : ℕ → ℕ → Bool) → Type 0
SameWhereAkin f g u v = (a : ℕ) → a < 32 → (b : ℕ) → b < 32 → SameIfAkin f g u v a b

-- what the rows of two books have in common
module _ (both : Both) where
  -- the neighbours of the step t, if it loops in the one
  abbrev pub SameNeighbours : ℕ → Type 0
  SameNeighbours = SameIfLooping (bit both.one.looping) (only_before_by both.one) (only_before_by both.other) (only_after_by both.one) (only_after_by both.other)

  -- the looping steps and their neighbours
  abbrev pub SameLoopsBy : Type 0
  SameLoopsBy = SameLooping (bit both.one.looping) (bit both.other.looping) (only_before_by both.one) (only_before_by both.other) (only_after_by both.one) (only_after_by both.other)

  abbrev pub SameEndsBy : Type 0
  SameEndsBy = SameSteps (bit both.one.first) (bit both.other.first) × SameSteps (bit both.one.last) (bit both.other.last)

  abbrev pub SameFeedsBy : Type 0
  SameFeedsBy = SamePairs (feeds_by both.one) (feeds_by both.other)

  -- whether two steps are unrelated, if they are akin in both
  abbrev pub SameKinOf : ℕ → ℕ → Type 0
  SameKinOf = SameIfAkin (feeds_by both.one) (feeds_by both.other) (unrelated_by both.one) (unrelated_by both.other)

  abbrev pub SameKinBy : Type 0
  SameKinBy = SameWhereAkin (feeds_by both.one) (feeds_by both.other) (unrelated_by both.one) (unrelated_by both.other)

-- each fact differs unless the rows have it in common
pub record DiffersBy (both : Both) (r : Differences) : Type 0 where
  pub seen_is : (r.seen ≡ false) ↔ SameSteps (bit both.one.seen) (bit both.other.seen)
  pub loops_is : (r.loops ≡ false) ↔ SameLoopsBy both
  pub ends_is : (r.ends ≡ false) ↔ SameEndsBy both
  pub feeds_is : (r.feeds ≡ false) ↔ SameFeedsBy both
  pub kin_is : (r.kin ≡ false) ↔ SameKinBy both
