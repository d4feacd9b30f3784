-- The page of a net, word by word
use Rattle.std.specs.Prelude.{ℕ, ◌≤◌, ◌/◌, ◌%◌, ◌^◌, Bool, cond, not, ◌&&◌, List, [], ◌∷◌, ◌++◌, map, codes, decimal, ◌==◌, nat_le, nat_lt, slice_index_or}
use Rattle.steps.specs.declared.names.Name.{Name}
use Rattle.steps.specs.Kinds.{name_text}

abbrev pub kind_of : ℕ → ℕ
kind_of w = w / 2 ^ 28

-- the word has one of the kinds that words of a net have
abbrev pub Tagged : ℕ → Type 0
Tagged w = (1 ≤ kind_of w) × (kind_of w ≤ 8)

-- a text where it is due
abbrev pub due : Bool → List ℕ → List ℕ
due b text = cond b text []

-- what begins a place's line, its fed steps, a looping step's line, and the end, after a word of kind p
abbrev pub mark : ℕ → ℕ → List ℕ
mark p k =
    cond (k == 4) (10 ∷ codes "PLACE") (cond (k == 6 && not (p == 6)) (codes " >") (cond (k == 7) (10 ∷ codes "LOOP") (cond (k == 8) (10 ∷ []) [])))

-- what stands ahead of a word of kind k that comes after one of kind p
unfoldable pub lead : ℕ → ℕ → List ℕ
lead p k = due (nat_lt p 2 && nat_le 2 k) (10 ∷ codes "FIRST") ++ (due (nat_lt p 3 && nat_le 3 k) (10 ∷ codes "LAST") ++ mark p k)

-- the fields, each after a space
abbrev pub spaced : List (List ℕ) → List ℕ
spaced [] = []
spaced (field ∷ more) = (32 ∷ field) ++ spaced more

-- the fields of a word of kind k with the number x
abbrev pub fields : List (List ℕ) → ℕ → ℕ → List (List ℕ)
fields names k x =
    cond (k == 4) (decimal x ∷ [])
    (cond (k == 7) (slice_index_or names (x % 256) [] ∷ decimal (x / 256) ∷ [])
    (cond (k == 8) [] (slice_index_or names x [] ∷ [])))

unfoldable pub body : List (List ℕ) → ℕ → ℕ → List ℕ
body names k x = spaced (fields names k x)

-- the text of a word that comes after one of kind p
unfoldable pub piece : List (List ℕ) → ℕ → ℕ → List ℕ
piece names p w = lead p (kind_of w) ++ body names (kind_of w) (w % 2 ^ 28)

-- the text of words, the first of which comes after one of kind p
unfoldable pub pieces : List (List ℕ) → ℕ → List ℕ → List ℕ
pieces names p [] = []
pieces names p (w ∷ ws) = piece names p w ++ pieces names (kind_of w) ws

-- the kind of the last of words that come after one of kind p
abbrev pub end_kind : ℕ → List ℕ → ℕ
end_kind p [] = p
end_kind p (w ∷ ws) = end_kind (kind_of w) ws

-- the page of a net's words by a roster
unfoldable pub paged : List Name → List ℕ → List ℕ
paged roster ws = codes "STEPS" ++ pieces (map name_text roster) 1 ws
