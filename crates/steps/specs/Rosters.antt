-- What a roster is asked
use Rattle.std.specs.Prelude.{◌≡◌, ℕ, suc, ◌<◌, List, [], ◌∷◌, map, length, Some, None, Option, ◌≢◌, slice_index_or}
use Rattle.std.specs.declared.cmp.Ordering.{Ordering}
use Rattle.std.specs.declared.cmp.Ordering.TheVariants.{Less, Equal, Greater}

-- strictly ascending: each step is before every later one
abbrev pub Ascending : {S : Type 0} → (S → S → Ordering) → List S → Type 0
Ascending {S} order steps = (i j : ℕ) (d : S) → i < j → j < length steps → order (slice_index_or steps i d) (slice_index_or steps j d) ≡ Less

-- what a call asks of the roster that it is given: strictly ascending, and of the length n
abbrev pub Fit : {S : Type 0} → (S → S → Ordering) → List S → ℕ → Type 0
Fit order steps n = Ascending order steps × (length steps ≡ n)

-- x is none of the first n steps
abbrev pub Absent : {S : Type 0} → List S → S → ℕ → Type 0
Absent steps x n = (k : ℕ) → k < n → slice_index_or steps k x ≢ x

-- the number of x is the first place that it has, if it has one
abbrev pub Numbered : {S : Type 0} → List S → S → Option ℕ → Type 0
Numbered steps x None = Absent steps x (length steps)
Numbered steps x (Some i) = (i < length steps) × (slice_index_or steps i x ≡ x) × Absent steps x i

-- x is one of the steps
abbrev pub Listed : {S : Type 0} → List S → S → Type 0
Listed steps x = (k : ℕ) × (k < length steps) × (slice_index_or steps k x ≡ x)

-- the first n events of a job are listed
abbrev pub ListedBelow : {S : Type 0} → List S → List S → ℕ → Type 0
ListedBelow {S} steps job n = (k : ℕ) → k < n → (d : S) → Listed steps (slice_index_or job k d)

-- the first event of a job that is not listed, if there is one
abbrev pub FirstUnlisted : {S : Type 0} → List S → List S → Option ℕ → Type 0
FirstUnlisted steps job None = ListedBelow steps job (length job)
FirstUnlisted {S} steps job (Some p) = (p < length job) × ((d : S) → Listed steps (slice_index_or job p d) → ⊥) × ListedBelow steps job p

-- 0 for the same step, and one more than n for any other
abbrev pub unless_same : Ordering → ℕ → ℕ
unless_same Less n = suc n
unless_same Equal n = 0
unless_same Greater n = suc n

-- the number of x, by the order: the first place of the same step, and the number of steps where there is none
abbrev pub number_of : {S : Type 0} → (S → S → Ordering) → List S → S → ℕ
number_of order [] x = 0
number_of order (y ∷ ys) x = unless_same (order y x) (number_of order ys x)

-- a job as step numbers
abbrev pub numbers : {S : Type 0} → (S → S → Ordering) → List S → List S → List ℕ
numbers order steps job = map (number_of order steps) job
