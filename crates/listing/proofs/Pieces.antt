-- The page of a net's words is the listing of the net
use Rattle.std.proofs.Common.{◌≡◌, ℕ, ◌+◌, ◌*◌, ◌/◌, ◌%◌, ◌^◌, ◌<◌, ◌≤◌, Bool, true, false, not, ◌&&◌, eqb, ltb, leb, List, [], ◌∷◌, ◌++◌, map, length, get_or, codes, decimal, sym, refl, ap, ◌∙◌, ap₂, ⊎_elim, append_assoc, arith}
use lib.Pow.{high, low}
use Rattle.std.specs.List.{AllByRecursion as All}
use Rattle.std.proofs.lemmas.List.{append-nil}
use Rattle.std.proofs.lemmas.Bool.{and_left, and_right, cases_lt, le-leb, le-ltb, lt-leb}
use Rattle.net.specs.Net.{Net, Place, word, words, places_words, loop_word}
use Rattle.facts.proofs.Reading.{Short, Neat, Loop, Tidy}
use Rattle.listing.specs.Page.{line, named, place_line, place_lines, loop_lines, listing}
use Rattle.listing.specs.Pieces.{kind_of, mark, lead, spaced, body, piece, pieces, end_kind}

-- a word of kind 3 or more came before
abbrev Late : ℕ → Type 0
Late p = (ltb p 2 ≡ false) × (ltb p 3 ≡ false)

lead_late : (p k : ℕ) → Late p → lead p k ≡ mark p k
unfolding lead
lead_late p k late = simp (late.0, late.1)

-- the kinds of word whose text is a name
abbrev pub Naming : ℕ → Type 0
Naming k = (eqb k 4 ≡ false) × (eqb k 7 ≡ false) × (eqb k 8 ≡ false)

lead_again : (k : ℕ) → Naming k → lead k k ≡ []
unfolding lead
lead_again k h = simp (never 2, never 3, neither (eqb k 6), h.0, h.1, h.2)
  where
    never : (j : ℕ) → (ltb k j && leb j k) ≡ false
    never j = ⊎_elim (λ l. and_right (ltb k j) (leb j k) (lt-leb j k l)) (λ l. and_left (ltb k j) (leb j k) (le-ltb k j l)) (cases_lt k j)

    neither : (b : Bool) → (b && not b) ≡ false
    neither true = refl
    neither false = refl

spaced_append : (xs ys : List (List ℕ)) → spaced (xs ++ ys) ≡ spaced xs ++ spaced ys
spaced_append [] ys = refl
spaced_append (x ∷ xs) ys = ap (λ z. (32 ∷ x) ++ z) (spaced_append xs ys) ∙ sym (append_assoc (32 ∷ x) (spaced xs) (spaced ys))

-- a line is its fields and the line end
line_is : (field : List ℕ) (more : List (List ℕ)) → line field more ≡ field ++ (spaced more ++ 10 ∷ [])
line_is field [] = refl
line_is field (next ∷ more) = ap (λ z. field ++ 32 ∷ z) (line_is next more) ∙ ap (λ z. field ++ 32 ∷ z) (sym (append_assoc next (spaced more) _))

ended : (field : List ℕ) (more : List (List ℕ)) (rest : List ℕ) → field ++ (spaced more ++ 10 ∷ rest) ≡ line field more ++ rest
ended field more rest = sym (ap (λ z. z ++ rest) (line_is field more) ∙ simp append_assoc)

-- the words begin with one of kind j or more
abbrev From : ℕ → List ℕ → Type 0
From j [] = ⊥
From j (w ∷ ws) = j ≤ kind_of w

from_row : {X : Type 0} (j : ℕ) (P : X → Type 0) (f : X → ℕ) → ((x : X) → P x → j ≤ kind_of (f x)) → (xs : List X) (ws : List ℕ) → All P xs → From j ws → From j (map f xs ++ ws)
from_row j P f kinds [] ws a h = h
from_row j P f kinds (x ∷ xs) ws a h = kinds x a.0

from_steps : (j k : ℕ) → j ≤ k → (ss ws : List ℕ) → All Short ss → From j ws → From j (map (word k) ss ++ ws)
from_steps j k l = from_row j Short (word k) (λ x h. let e = high k 28 h in omega arith)

from_places : (j : ℕ) → j ≤ 4 → (i : ℕ) (ps : List Place) (ws : List ℕ) → i + length ps ≤ 2 ^ 28 → From j ws → From j (places_words i ps ++ ws)
from_places j l i [] ws few h = h
from_places j l i (p ∷ ps) ws few h = let e = high 4 28 {lo = i} (omega arith) in omega arith

from_loops : (ls : List (ℕ × ℕ)) (n : ℕ) → n < 2 ^ 28 → All Loop ls → From 3 (map loop_word ls ++ word 8 n ∷ [])
from_loops ls n l a = from_row 3 Loop loop_word (λ x h. let e = high 7 28 {lo = x.1 * 256 + x.0} (omega arith) in omega arith) ls _ a (let e = high 8 28 l in omega arith)

-- a list that is not empty
abbrev pub Some : List ℕ → Type 0
Some [] = ⊥
Some (x ∷ xs) = Unit {0}

pub end_kind_more : (p : ℕ) (ws : List ℕ) (w : ℕ) → end_kind p (ws ++ w ∷ []) ≡ kind_of w
end_kind_more p [] w = refl
end_kind_more p (v ∷ vs) w = end_kind_more (kind_of v) vs w

module _ (names : List (List ℕ)) where
  -- one word more at the end
  pub pieces_more : (p : ℕ) (ws : List ℕ) (w : ℕ) → pieces names p (ws ++ w ∷ []) ≡ pieces names p ws ++ piece names (end_kind p ws) w
  unfolding pieces
  pieces_more p [] w = append-nil (piece names p w)
  pieces_more p (v ∷ vs) w = ap (λ z. piece names p v ++ z) (pieces_more (kind_of v) vs w) ∙ sym (append_assoc (piece names p v) _ _)

  -- a word of kind k ahead of others
  head : (p k x : ℕ) (ws : List ℕ) → x < 2 ^ 28 → pieces names p (word k x ∷ ws) ≡ (lead p k ++ body names k x) ++ pieces names k ws
  unfolding pieces piece
  head p k x ws l = ap₂ (λ j y. (lead p j ++ body names j y) ++ pieces names j ws) (high k 28 l) (low k 28 l)

  -- the text of each kind of word
  pub number_text : (x : ℕ) → body names 4 x ≡ 32 ∷ decimal x
  unfolding body
  number_text x = append-nil (32 ∷ decimal x)

  pub loop_text : (x : ℕ) → body names 7 x ≡ (32 ∷ get_or names (x % 256) []) ++ (32 ∷ decimal (x / 256))
  unfolding body
  loop_text x = ap (λ z. (32 ∷ get_or names (x % 256) []) ++ z) (append-nil (32 ∷ decimal (x / 256)))

  pub end_text : (x : ℕ) → body names 8 x ≡ []
  unfolding body
  end_text x = refl

  pub name_text_lem : (k x : ℕ) → Naming k → body names k x ≡ 32 ∷ get_or names x []
  unfolding body
  name_text_lem k x h = simp (h.0, h.1, h.2) (append-nil (32 ∷ get_or names x []))

  -- words of one kind, whose text is a name each
  row : (k : ℕ) → Naming k → (ss ws : List ℕ) → All Short ss → pieces names k (map (word k) ss ++ ws) ≡ spaced (named names ss) ++ pieces names k ws
  row k h [] ws a = refl
  row k h (s ∷ ss) ws a =
      head k k s (map (word k) ss ++ ws) a.0
      ∙ ap₂ (λ x y. x ++ y) (ap₂ (λ x y. x ++ y) (lead_again k h) (name_text_lem k s h)) (row k h ss ws a.1)
      ∙ sym (append_assoc (32 ∷ get_or names s []) _ _)

  first_opens : (ws : List ℕ) → From 2 ws → pieces names 1 ws ≡ (10 ∷ codes "FIRST") ++ pieces names 2 ws
  unfolding pieces piece lead
  first_opens [] f = absurd f
  first_opens (w ∷ ws) f = simp (le-leb 2 (kind_of w) f)

  last_opens : (ws : List ℕ) → From 3 ws → pieces names 2 ws ≡ (10 ∷ codes "LAST") ++ pieces names 3 ws
  unfolding pieces piece lead
  last_opens [] f = absurd f
  last_opens (w ∷ ws) f = simp (le-leb 3 (kind_of w) f)

  -- the looping steps, to the end
  loops_paged : (ls : List (ℕ × ℕ)) (n : ℕ) → n < 2 ^ 28 → All Loop ls → (p : ℕ) → Late p → pieces names p (map loop_word ls ++ word 8 n ∷ []) ≡ 10 ∷ loop_lines names ls
  unfolding pieces
  loops_paged [] n l a p late = head p 8 n [] l ∙ (λ i. (lead_late p 8 late i ++ end_text n i) ++ [])
  loops_paged (x ∷ xs) n l a p late =
      let step : (x.1 * 256 + x.0) % 256 ≡ x.0 = omega arith in
      let seat : (x.1 * 256 + x.0) / 256 ≡ x.1 = omega arith in
      let text : body names 7 (x.1 * 256 + x.0) ≡ (32 ∷ get_or names x.0 []) ++ (32 ∷ decimal x.1) =
      loop_text (x.1 * 256 + x.0) ∙ (λ i. (32 ∷ get_or names (step i) []) ++ (32 ∷ decimal (seat i))) in
      head p 7 (x.1 * 256 + x.0) _ (omega arith)
      ∙ (λ i. (lead_late p 7 late i ++ text i) ++ loops_paged xs n l a.1 7 (refl, refl) i)
      ∙ append_assoc (10 ∷ codes "LOOP") ((32 ∷ get_or names x.0 []) ++ (32 ∷ decimal x.1)) (10 ∷ loop_lines names xs)
      ∙ ap (λ z. (10 ∷ codes "LOOP") ++ (((32 ∷ get_or names x.0 []) ++ z) ++ 10 ∷ loop_lines names xs)) (sym (append-nil (32 ∷ decimal x.1)))
      ∙ ap (λ z. 10 ∷ z) (ended (codes "LOOP") (get_or names x.0 [] ∷ decimal x.1 ∷ []) (loop_lines names xs))

  -- the places, and what follows them
  feeders_open : (ws : List ℕ) → pieces names 4 ws ≡ pieces names 5 ws
  unfolding pieces piece lead
  feeders_open [] = refl
  feeders_open (w ∷ ws) = refl

  fed_open : (ss ws : List ℕ) → All Short ss → Some ss → pieces names 5 (map (word 6) ss ++ ws) ≡ codes " >" ++ pieces names 6 (map (word 6) ss ++ ws)
  unfolding lead
  fed_open [] ws a h = absurd h
  fed_open (s ∷ ss) ws a h = head 5 6 s (map (word 6) ss ++ ws) a.0 ∙ ap (λ z. codes " >" ++ z) (sym (head 6 6 s (map (word 6) ss ++ ws) a.0))

  places_paged : (i : ℕ) (ps : List Place) (ws rest : List ℕ) → i + length ps ≤ 2 ^ 28 → All Neat ps → All (λ (p : Place). Some p.fed) ps
      → ((p : ℕ) → Late p → pieces names p ws ≡ 10 ∷ rest) → (p : ℕ) → Late p → pieces names p (places_words i ps ++ ws) ≡ 10 ∷ (place_lines names i ps ++ rest)
  places_paged i [] ws rest few neat fed end p late = end p late
  places_paged i (q ∷ ps) ws rest few neat fed end p late =
      let past = places_words (1 + i) ps ++ ws in
      let fedWords = map (word 6) q.fed ++ past in
      let from = named names q.feeders in
      let to = named names q.fed in
      let more = place_lines names (1 + i) ps ++ rest in
      let regroup : places_words i (q ∷ ps) ++ ws ≡ word 4 i ∷ (map (word 5) q.feeders ++ fedWords) = simp append_assoc in
      let places : pieces names 6 past ≡ 10 ∷ more = places_paged (1 + i) ps ws rest (omega arith) neat.1 fed.1 end 6 (refl, refl) in
      let fedText : pieces names 5 fedWords ≡ codes " >" ++ (spaced to ++ 10 ∷ more) =
      fed_open q.fed past neat.0.1 fed.0 ∙ ap (λ z. codes " >" ++ z) (row 6 (refl, refl, refl) q.fed past neat.0.1 ∙ ap (λ z. spaced to ++ z) places) in
      let after : pieces names 4 (map (word 5) q.feeders ++ fedWords) ≡ spaced from ++ (codes " >" ++ (spaced to ++ 10 ∷ more)) =
      feeders_open (map (word 5) q.feeders ++ fedWords) ∙ row 5 (refl, refl, refl) q.feeders fedWords neat.0.0 ∙ ap (λ z. spaced from ++ z) fedText in
      let all = decimal i ∷ from ++ codes ">" ∷ to in
      let flat : spaced all ++ 10 ∷ more ≡ (32 ∷ decimal i) ++ (spaced from ++ (codes " >" ++ (spaced to ++ 10 ∷ more))) =
      append_assoc (32 ∷ decimal i) (spaced (from ++ codes ">" ∷ to)) (10 ∷ more)
      ∙ ap (λ z. (32 ∷ decimal i) ++ z) (ap (λ z. z ++ 10 ∷ more) (spaced_append from (codes ">" ∷ to)) ∙ append_assoc (spaced from) (spaced (codes ">" ∷ to)) (10 ∷ more)) in
      ap (pieces names p) regroup
      ∙ head p 4 i (map (word 5) q.feeders ++ fedWords) (omega arith)
      ∙ (λ j. (lead_late p 4 late j ++ number_text i j) ++ after j)
      ∙ sym (ap (λ z. (10 ∷ codes "PLACE") ++ z) flat)
      ∙ ap (λ z. 10 ∷ z) (ended (codes "PLACE") all more ∙ sym (append_assoc (place_line names i q) (place_lines names (1 + i) ps) rest))

  pub words_paged : (n : Net) → Tidy n → All (λ (p : Place). Some p.fed) n.places → codes "STEPS" ++ pieces names 1 (words n) ≡ listing names n
  words_paged n t fed =
      let few : 0 + length n.places ≤ 2 ^ 28 = (let l = t.places_few in omega arith) in
      let small : length n.places < 2 ^ 28 = (let l = t.places_few in omega arith) in
      let ends = map loop_word n.loops ++ word 8 (length n.places) ∷ [] in
      let fromPlaces = places_words 0 n.places ++ ends in
      let fromLast = map (word 3) n.last_steps ++ fromPlaces in
      let fromFirst = map (word 2) n.first_steps ++ fromLast in
      let body = place_lines names 0 n.places ++ loop_lines names n.loops in
      let late : From 3 fromPlaces = from_places 3 (omega arith) 0 n.places ends few (from_loops n.loops (length n.places) small t.loops_short) in
      let lates : From 3 fromLast = from_steps 3 3 (omega arith) n.last_steps fromPlaces t.last_short late in
      let firsts : From 2 fromFirst = from_steps 2 2 (omega arith) n.first_steps fromLast t.first_short (sooner fromLast lates) in
      let a : pieces names 3 fromLast ≡ spaced (named names n.last_steps) ++ 10 ∷ body =
      row 3 (refl, refl, refl) n.last_steps fromPlaces t.last_short ∙ ap (λ z. spaced (named names n.last_steps) ++ z)
      (places_paged 0 n.places ends (loop_lines names n.loops) few t.places_neat fed (loops_paged n.loops (length n.places) small t.loops_short) 3 (refl, refl)) in
      let b : pieces names 2 fromLast ≡ 10 ∷ (line (codes "LAST") (named names n.last_steps) ++ body) =
      last_opens fromLast lates ∙ ap (λ z. (10 ∷ codes "LAST") ++ z) a ∙ ap (λ z. 10 ∷ z) (ended (codes "LAST") (named names n.last_steps) body) in
      let c : pieces names 1 fromFirst ≡ 10 ∷ (line (codes "FIRST") (named names n.first_steps) ++ (line (codes "LAST") (named names n.last_steps) ++ body)) =
      first_opens fromFirst firsts ∙ ap (λ z. (10 ∷ codes "FIRST") ++ z) (row 2 (refl, refl, refl) n.first_steps fromLast t.first_short ∙ ap (λ z. spaced (named names n.first_steps) ++ z) b)
      ∙ ap (λ z. 10 ∷ z) (ended (codes "FIRST") (named names n.first_steps) _) in
      ap (λ z. codes "STEPS" ++ z) (row 1 (refl, refl, refl) n.seen_steps fromFirst t.seen_short ∙ ap (λ z. spaced (named names n.seen_steps) ++ z) c)
      ∙ ended (codes "STEPS") (named names n.seen_steps) _
    where
      sooner : (ws : List ℕ) → From 3 ws → From 2 ws
      sooner [] h = h
      sooner (w ∷ ws) h = omega arith
