-- Jobs as words: a head word with kind 1 and the number of events, then a word for each event.
use Rattle.std.specs.Prelude.{◌≡◌, ℕ, ◌+◌, ◌^◌, ◌<◌, ◌≤◌, cond, List, [], ◌∷◌, ◌++◌, length, take, drop, ◌≢◌, nat_lt, slice_index, slice_index_or}

-- the words of one job, and of a list of jobs
abbrev pub encoded : List ℕ → List ℕ
encoded job = (2 ^ 30 + length job) ∷ job

abbrev pub encode : List (List ℕ) → List ℕ
encode [] = []
encode (j ∷ js) = encoded j ++ encode js

-- the events ahead of the first head word, and the jobs from that on
abbrev pub loose : List ℕ → List ℕ
loose [] = []
loose (w ∷ ws) = cond (nat_lt w (2 ^ 30)) (w ∷ loose ws) []

abbrev pub jobs : List ℕ → List (List ℕ)
jobs [] = []
jobs (w ∷ ws) = cond (nat_lt w (2 ^ 30)) (jobs ws) (loose ws ∷ jobs ws)

-- the jobs that a book holds whose first `used` words are in use
abbrev pub held : ℕ → List ℕ → List (List ℕ)
held used ws = jobs (drop 1 (take used ws))

-- the numbers of steps and of words that a book is opened for
abbrev pub Opens : ℕ → ℕ → Type 0
Opens steps len = (1 ≤ steps) × (steps ≤ 32) × (2 ≤ len) × (len ≤ 16384)

-- each event is a step
abbrev pub OfSteps : ℕ → List ℕ → Type 0
OfSteps steps job = (k : ℕ) → k < length job → slice_index job k < steps

-- each job has 1 to 1,000 events, and each event is a step; no two are equal
abbrev pub EachSized : List (List ℕ) → Type 0
EachSized js = (i : ℕ) → i < length js → (1 ≤ length (slice_index_or js i [])) × (length (slice_index_or js i []) ≤ 1000)

abbrev pub EachStepped : ℕ → List (List ℕ) → Type 0
EachStepped steps js = (i k : ℕ) → i < length js → k < length (slice_index_or js i []) → slice_index (slice_index_or js i []) k < steps

abbrev pub Apart : List (List ℕ) → Type 0
Apart js = (i j : ℕ) → i < j → j < length js → slice_index_or js i [] ≢ slice_index_or js j []

-- an open book's memory: word 0, then whole jobs as far as it is used
abbrev pub Laid : ℕ → ℕ → List ℕ → Type 0
Laid steps used ws = take used ws ≡ (2 ^ 31 + steps) ∷ encode (held used ws)
