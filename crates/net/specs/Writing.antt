-- The words of a net part by part, as rows tell them
use Rattle.std.specs.Prelude.{ℕ, Bool, List, [], ◌∷◌, ◌++◌, map, length, slice_index}
use Rattle.flow.specs.declared.relations.Relations.{Relations}
use Rattle.flow.specs.Bits.{bit}
use Rattle.net.specs.Net.{those, word, place, place_words, places_words, loop_word}

-- the words of one kind, for each step that passes a test
unfoldable pub step_words : ℕ → (ℕ → Bool) → List ℕ
step_words kind test = map (word kind) (those test)

-- the words of the place with this number, and of places from number 0 on
unfoldable pub group_words : ℕ → ℕ → List ℕ
group_words number g = place_words number (place g)

unfoldable pub groups_words : List ℕ → List ℕ
groups_words groups = places_words 0 (map place groups)

-- the words of the steps that pass a test, each with its number
unfoldable pub loop_words : (ℕ → Bool) → (ℕ → ℕ) → List ℕ
loop_words test number = map loop_word (map (λ t. (t, number t)) (those test))

-- all words of a net: seats has at t the number of the place of the looping step t
unfoldable pub words_by : Relations → List ℕ → List ℕ → List ℕ
words_by r groups seats =
    step_words 1 (bit r.seen) ++ (step_words 2 (bit r.first) ++ (step_words 3 (bit r.last)
    ++ (groups_words groups ++ (loop_words (bit r.looping) (λ t. slice_index seats t) ++ word 8 (length groups) ∷ []))))
