-- The relations of steps. A step is a number, a job is a list of steps, and the jobs are those that a book holds.
use Rattle.std.specs.Prelude.{ℕ, Bool, false, not, ◌&&◌, ◌||◌, List, [], ◌∷◌, map, filter, ◌==◌, nat_eq}

abbrev pub Jobs : Type 0
Jobs = List (List ℕ)

-- some element passes the test
abbrev pub some : {X : Type 0} → (X → Bool) → List X → Bool
some t [] = false
some t (x ∷ xs) = t x || some t xs

-- the job has the step s
abbrev pub has : ℕ → List ℕ → Bool
has s = some (λ x. nat_eq x s)

-- the job begins with s, ends with s
abbrev pub begins : ℕ → List ℕ → Bool
begins s [] = false
begins s (x ∷ xs) = x == s

abbrev pub ends : ℕ → List ℕ → Bool
ends s [] = false
ends s (x ∷ []) = x == s
ends s (x ∷ (y ∷ ys)) = ends s (y ∷ ys)

-- b comes next after a somewhere in the job
abbrev pub next : ℕ → ℕ → List ℕ → Bool
next a b [] = false
next a b (x ∷ xs) = (x == a && begins b xs) || next a b xs

-- the job begins with a b
abbrev pub begins_two : ℕ → ℕ → List ℕ → Bool
begins_two a b [] = false
begins_two a b (x ∷ xs) = x == a && begins b xs

-- a b c are consecutive somewhere in the job
abbrev pub three : ℕ → ℕ → ℕ → List ℕ → Bool
three a b c [] = false
three a b c (x ∷ xs) = (x == a && begins_two b c xs) || three a b c xs

-- a step is seen if some job has it, and b follows a if it comes next after it in some job
abbrev pub seen : Jobs → ℕ → Bool
seen js s = some (has s) js

abbrev pub follows : Jobs → ℕ → ℕ → Bool
follows js a b = some (next a b) js

-- a step is looping if some job has it twice running
abbrev pub looping : Jobs → ℕ → Bool
looping js s = follows js s s

-- the jobs with all looping steps taken out; one that is then empty has no event, and so counts for nothing
abbrev pub reduced : Jobs → Jobs
reduced js = map (filter (λ s. not (looping js s))) js

-- a step stands in a reduced job; is the first, the last of one
abbrev pub stands : Jobs → ℕ → Bool
stands js s = seen (reduced js) s

abbrev pub first : Jobs → ℕ → Bool
first js s = some (begins s) (reduced js)

abbrev pub last : Jobs → ℕ → Bool
last js s = some (ends s) (reduced js)

-- a precedes b if b comes next after a in a reduced job
abbrev pub precedes : Jobs → ℕ → ℕ → Bool
precedes js a b = follows (reduced js) a b

-- a b a are consecutive in a reduced job
abbrev pub returns : Jobs → ℕ → ℕ → Bool
returns js a b = some (three a b a) (reduced js)

-- What is told of two steps by which step precedes which, and which returns after which
module _ (precede return : ℕ → ℕ → Bool) where
  -- different steps, each of which returns after the other
  abbrev pub turn_of : ℕ → ℕ → Bool
  turn_of a b = not (a == b) && (return a b && return b a)

  abbrev pub leads_of : ℕ → ℕ → Bool
  leads_of a b = precede a b && (not (precede b a) || turn_of a b)

  abbrev pub unrelated_of : ℕ → ℕ → Bool
  unrelated_of a b = not (precede a b) && not (precede b a)

  abbrev pub beside_of : ℕ → ℕ → Bool
  beside_of a b = (precede a b && precede b a) && not (turn_of a b)

  abbrev pub feeds_of : ℕ → ℕ → Bool
  feeds_of a b = leads_of a b && (not (precede a a) && not (precede b b))

-- two different steps turn if both a b a and b a b are consecutive in reduced jobs
abbrev pub turn : Jobs → ℕ → ℕ → Bool
turn js = turn_of (precedes js) (returns js)

-- a leads to b if a precedes b, and b does not precede a or they turn
abbrev pub leads : Jobs → ℕ → ℕ → Bool
leads js = leads_of (precedes js) (returns js)

-- neither precedes the other
abbrev pub unrelated : Jobs → ℕ → ℕ → Bool
unrelated js = unrelated_of (precedes js) (returns js)

-- side by side: each precedes the other, and they do not turn
abbrev pub beside : Jobs → ℕ → ℕ → Bool
beside js = beside_of (precedes js) (returns js)

-- a feeds b if a leads to b and neither precedes itself
abbrev pub feeds : Jobs → ℕ → ℕ → Bool
feeds js = feeds_of (precedes js) (returns js)

-- s is not looping and stands directly before, directly after the step t, in the jobs as they are held
abbrev pub before : Jobs → ℕ → ℕ → Bool
before js t s = follows js s t && not (looping js s)

abbrev pub after : Jobs → ℕ → ℕ → Bool
after js t s = follows js t s && not (looping js s)

abbrev pub only_before : Jobs → ℕ → ℕ → Bool
only_before js t s = before js t s && not (after js t s)

abbrev pub only_after : Jobs → ℕ → ℕ → Bool
only_after js t s = after js t s && not (before js t s)
