-- The page of a net, line by line
use Rattle.std.specs.Prelude.{ℕ, ◌+◌, List, [], ◌∷◌, ◌++◌, map, get_or, codes, decimal, slice_index_or}
use Rattle.net.specs.Net.{Net, Place}

-- fields parted by single spaces, and the line end
abbrev pub line : List ℕ → List (List ℕ) → List ℕ
line field [] = field ++ 10 ∷ []
line field (next ∷ more) = field ++ 32 ∷ line next more

-- the names of steps; `names` are those of the roster, in its order
abbrev pub named : List (List ℕ) → List ℕ → List (List ℕ)
named names = map (λ s. get_or names s [])

abbrev pub place_line : List (List ℕ) → ℕ → Place → List ℕ
place_line names number p = line (codes "PLACE") (decimal number ∷ named names p.feeders ++ codes ">" ∷ named names p.fed)

abbrev pub place_lines : List (List ℕ) → ℕ → List Place → List ℕ
place_lines names number [] = []
place_lines names number (p ∷ ps) = place_line names number p ++ place_lines names (1 + number) ps

abbrev pub loop_lines : List (List ℕ) → List (ℕ × ℕ) → List ℕ
loop_lines names [] = []
loop_lines names (l ∷ ls) = line (codes "LOOP") (slice_index_or names l.0 [] ∷ decimal l.1 ∷ []) ++ loop_lines names ls

-- the steps seen, the first and the last ones, the places, and the looping steps with their places
abbrev pub listing : List (List ℕ) → Net → List ℕ
listing names n =
    line (codes "STEPS") (named names n.seen_steps)
    ++ (line (codes "FIRST") (named names n.first_steps)
    ++ (line (codes "LAST") (named names n.last_steps)
    ++ (place_lines names 0 n.places ++ loop_lines names n.loops)))
