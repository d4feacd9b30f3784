-- The net of jobs, and its words. Steps are the numbers below 32.
use Rattle.std.specs.Prelude.{◌≡◌, ℕ, suc, ◌+◌, ◌*◌, ◌^◌, ◌<◌, ◌≤◌, Bool, true, false, cond, not, ◌&&◌, List, [], ◌∷◌, ◌++◌, map, length, filter}
use Rattle.std.specs.List.{range_with_len}
use Rattle.groups.specs.Listings.{Listing}
use Rattle.flow.specs.Bits.{bit}
use Rattle.flow.specs.Flow.{Jobs, some, seen, first, last, looping, only_before, only_after}
use Rattle.bonds.specs.Pairs.{place_pairs, feeder_mark, fed_mark}

abbrev pub steps : List ℕ
steps = range_with_len 0 32

-- the steps that pass a test, ascending
abbrev pub those : (ℕ → Bool) → List ℕ
those t = filter t steps

-- the places of jobs: the listed groups of their place bond
abbrev pub Places : Jobs → List ℕ → Type 0
Places js groups = Listing (place_pairs js) feeder_mark fed_mark groups

-- a place: its feeders and its fed steps
pub record Place : Type 0 where
  pub feeders : List ℕ
  pub fed : List ℕ

abbrev pub place : ℕ → Place
place g = record { feeders = those (bit g); fed = those (λ s. bit g (32 + s)) }

abbrev pub same : Bool → Bool → Bool
same true b = b
same false b = not b

abbrev pub every : {X : Type 0} → (X → Bool) → List X → Bool
every t [] = true
every t (x ∷ xs) = t x && every t xs

-- the looping step t sits on the place g: its feeders are exactly the only-before of t, and its fed steps the only-after
abbrev pub sits : Jobs → ℕ → ℕ → Bool
sits js t g = every (λ s. same (bit g s) (only_before js t s) && same (bit g (32 + s)) (only_after js t s)) steps

-- how many come before the first that passes
abbrev pub position : (ℕ → Bool) → List ℕ → ℕ
position t [] = 0
position t (x ∷ xs) = cond (t x) 0 (suc (position t xs))

pub record Net : Type 0 where
  pub seen_steps : List ℕ
  pub first_steps : List ℕ
  pub last_steps : List ℕ
  pub places : List Place
  -- the looping steps, each with the number of its place
  pub loops : List (ℕ × ℕ)

abbrev pub net : Jobs → List ℕ → Net
net js groups = record {
  seen_steps = those (seen js);
  first_steps = those (first js);
  last_steps = those (last js);
  places = map place groups;
  loops = map (λ t. (t, position (sits js t) groups)) (those (looping js));
}

-- a word has its kind in the top four bits
abbrev pub word : ℕ → ℕ → ℕ
word kind x = kind * 2 ^ 28 + x

abbrev pub place_words : ℕ → Place → List ℕ
place_words number p = word 4 number ∷ map (word 5) p.feeders ++ map (word 6) p.fed

abbrev pub places_words : ℕ → List Place → List ℕ
places_words number [] = []
places_words number (p ∷ ps) = place_words number p ++ places_words (1 + number) ps

abbrev pub loop_word : ℕ × ℕ → ℕ
loop_word l = word 7 (l.1 * 256 + l.0)

abbrev pub words : Net → List ℕ
words n =
    map (word 1) n.seen_steps ++ (map (word 2) n.first_steps ++ (map (word 3) n.last_steps
    ++ (places_words 0 n.places ++ (map loop_word n.loops ++ word 8 (length n.places) ∷ []))))

-- every looping step sits on one of the places
abbrev pub Seated : Jobs → List ℕ → Type 0
Seated js groups = (t : ℕ) → t < 32 → looping js t ≡ true → some (sits js t) groups ≡ true

-- jobs that can be drawn, and the words of their net
pub record Draws (js : Jobs) (ws : List ℕ) : Type 0 where
  pub groups : List ℕ
  pub listed : Places js groups
  pub few : length groups ≤ 256
  pub seated : Seated js groups
  pub written : ws ≡ words (net js groups)
