-- The words of a net have kinds
use Rattle.std.proofs.Common.{ℕ, zero, suc, ◌+◌, ◌*◌, ◌^◌, ◌<◌, ◌≤◌, List, [], ◌∷◌, ◌++◌, map, length, get_or, Option, Some, None, IsSome, refl, arith}
use lib.Pow.{high}
use Rattle.std.specs.List.{AllByRecursion as All}
use Rattle.net.specs.declared.kinds.Kind.{Kind}
use Rattle.net.specs.declared.kinds.Kind.TheVariants as kind
use Rattle.net.specs.Kinds.{Numbered, number_of}
use Rattle.net.specs.Net.{Net, Place, word, words, place_words, places_words, loop_word}
use Rattle.facts.proofs.Reading.{Short, Neat, Loop, Tidy}
use Rattle.listing.specs.Pieces.{Tagged}

numbers : (k : Kind) → (1 ≤ number_of k) × (number_of k ≤ 8)
numbers kind.Seen = (omega arith, omega arith)
numbers kind.First = (omega arith, omega arith)
numbers kind.Last = (omega arith, omega arith)
numbers kind.Place = (omega arith, omega arith)
numbers kind.Feeder = (omega arith, omega arith)
numbers kind.Fed = (omega arith, omega arith)
numbers kind.Looping = (omega arith, omega arith)
numbers kind.Count = (omega arith, omega arith)

-- the numbers from 1 to 8 are those of kinds
pub some_kind : (n : ℕ) → 1 ≤ n → n ≤ 8 → Numbered n None → ⊥
some_kind n l h none = omega (arith, none kind.Seen, none kind.First, none kind.Last, none kind.Place, none kind.Feeder, none kind.Fed, none kind.Looping, none kind.Count)

tagged_word : (k : Kind) (x : ℕ) → x < 2 ^ 28 → Tagged (word (number_of k) x)
tagged_word k x l = let e = high (number_of k) 28 l in let n = numbers k in (omega (arith, n.0), omega (arith, n.1))

join : (xs ys : List ℕ) → All Tagged xs → All Tagged ys → All Tagged (xs ++ ys)
join [] ys a b = b
join (x ∷ xs) ys a b = (a.0, join xs ys a.1 b)

row : {X : Type 0} (P : X → Type 0) (f : X → ℕ) → ((x : X) → P x → Tagged (f x)) → (xs : List X) → All P xs → All Tagged (map f xs)
row P f each [] a = tt
row P f each (x ∷ xs) a = (each x a.0, row P f each xs a.1)

steps : (k : Kind) (ss : List ℕ) → All Short ss → All Tagged (map (word (number_of k)) ss)
steps k = row Short (word (number_of k)) (tagged_word k)

places : (i : ℕ) (ps : List Place) → i + length ps ≤ 2 ^ 28 → All Neat ps → All Tagged (places_words i ps)
places i [] few a = tt
places i (p ∷ ps) few a =
    join (place_words i p) (places_words (1 + i) ps)
    (tagged_word kind.Place i (omega arith), join (map (word 5) p.feeders) (map (word 6) p.fed) (steps kind.Feeder p.feeders a.0.0) (steps kind.Fed p.fed a.0.1))
    (places (1 + i) ps (omega arith) a.1)

loops : (ls : List (ℕ × ℕ)) → All Loop ls → All Tagged (map loop_word ls)
loops = row Loop loop_word (λ l short. tagged_word kind.Looping (l.1 * 256 + l.0) (omega arith))

at : (ws : List ℕ) → All Tagged ws → (k : ℕ) → k < length ws → Tagged (get_or ws k 0)
at [] a k l = absurd (omega arith)
at (w ∷ ws) a zero l = a.0
at (w ∷ ws) a (suc k) l = at ws a.1 k (omega arith)

pub words_tagged : (n : Net) → Tidy n → (k : ℕ) → k < length (words n) → Tagged (get_or (words n) k 0)
words_tagged n t = at (words n)
    (join (map (word 1) n.seen_steps) _ (steps kind.Seen n.seen_steps t.seen_short)
    (join (map (word 2) n.first_steps) _ (steps kind.First n.first_steps t.first_short)
    (join (map (word 3) n.last_steps) _ (steps kind.Last n.last_steps t.last_short)
    (join (places_words 0 n.places) _ (places 0 n.places (let l = t.places_few in omega arith) t.places_neat)
    (join (map loop_word n.loops) _ (loops n.loops t.loops_short)
    (tagged_word kind.Count (length n.places) (let l = t.places_few in omega arith), tt))))))

-- so a kind is told of it
pub kind_told : (n : ℕ) → 1 ≤ n → n ≤ 8 → (o : Option Kind) → Numbered n o → IsSome o
kind_told n l h None t = absurd (some_kind n l h t)
kind_told n l h (Some kind) t = refl
