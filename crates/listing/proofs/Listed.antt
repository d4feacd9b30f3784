-- The page of drawn words is the page of the jobs, and drawn words are few
use Rattle.std.proofs.Common.{◌≡◌, ℕ, suc, ◌+◌, ◌*◌, ◌<◌, ◌≤◌, Bool, true, List, [], ◌∷◌, ◌++◌, map, length, get_or, Err, filter, sym, ap, ◌∙◌, subst, arith}
use Rattle.std.specs.List.{AllByRecursion as All}
use Rattle.std.proofs.ByRecursion.{All-from_get_or, All-map}
use Rattle.std.proofs.lemmas.List.{length-append, length-map}
use Rattle.std.proofs.lemmas.Bool.{cond_both}
use Rattle.steps.specs.declared.names.Name.{Name}
use Rattle.steps.specs.Kinds.{name_text}
use Rattle.groups.specs.Groups.{Touches}
use Rattle.flow.specs.Bits.{bit}
use Rattle.flow.specs.Flow.{Jobs, seen, first, last, looping}
use Rattle.flow.proofs.Bits.{in_bit}
use Rattle.bonds.specs.Pairs.{fed_mark}
use Rattle.net.specs.Net.{Place, Draws, steps, those, place, net, word, place_words, places_words, loop_word, sits, position}
use Rattle.net.specs.Draw.{Drew}
use Rattle.net.specs.declared.faults.DrawFault.{DrawFault}
use Rattle.net.specs.declared.faults.DrawFault.TheVariants.{Void, TooMany, Unseated, TooShort}
use Rattle.facts.proofs.Steps.{those_at}
use Rattle.facts.proofs.PlaceGroups.{marked_fed}
use Rattle.facts.proofs.Law.{tidy}
use Rattle.listing.specs.Drawn.{DrawnFor}
use Rattle.listing.specs.Listed.{Lists}
use Rattle.listing.specs.Pieces.{Tagged, paged}
use Rattle.listing.proofs.Pieces.{Some, words_paged}
use Rattle.listing.proofs.Tagging.{words_tagged}

-- a test that a step passes keeps a step
those_some : (t : ℕ → Bool) (s : ℕ) → s < 32 → t s ≡ true → Some (those t)
those_some t s l h = filled (those t) (λ a. those_at (λ _. ⊥) t a s l h)
  where
    filled : (xs : List ℕ) → (All (λ _. ⊥) xs → ⊥) → Some xs
    filled [] n = n tt
    filled (x ∷ xs) n = tt

-- each place feeds a step
fed_some : (g : ℕ) → Touches g fed_mark → Some (place g).fed
fed_some g (p, i, m) = let (b, l, e) = marked_fed p m in those_some (λ s. bit g (32 + s)) b l (in_bit g (32 + b) (rw e at i))

pub lists : (js : Jobs) (ws : List ℕ) → Draws js ws → (roster : List Name) → Lists js roster (paged roster ws)
unfolding paged
lists js ws d roster = record {
  groups = d.groups;
  listed = d.listed;
  few = d.few;
  seated = d.seated;
  written = ap (paged roster) d.written ∙ words_paged (map name_text roster) (net js d.groups) (tidy js d.groups d.few)
      (All-map (λ (p : Place). Some p.fed) place d.groups (All-from_get_or (λ g. Some (place g).fed) d.groups 0 (λ i l. fed_some (get_or d.groups i 0) (d.listed.sound i l).two)));
}

pub drawn_tagged : (js : Jobs) (ws : List ℕ) → Draws js ws → (k : ℕ) → k < length ws → Tagged (get_or ws k 0)
drawn_tagged js ws d = subst (λ vs. (k : ℕ) → k < length vs → Tagged (get_or vs k 0)) (sym d.written) (words_tagged (net js d.groups) (tidy js d.groups d.few))

-- ---- how many words there are

kept_few : (t : ℕ → Bool) (xs : List ℕ) → length (filter t xs) ≤ length xs
kept_few t [] = omega arith
kept_few t (x ∷ xs) = let r = kept_few t xs in cond_both (t x) (x ∷ filter t xs) (filter t xs) (λ ys. length ys ≤ suc (length xs)) (λ _. omega arith) (λ _. omega arith)

those_few : (t : ℕ → Bool) → length (those t) ≤ 32
those_few t = kept_few t steps

map_few : {X Y : Type 0} (f : X → Y) (xs : List X) (n : ℕ) → length xs ≤ n → length (map f xs) ≤ n
map_few f xs n l = omega (arith, length-map xs f)

append_few : (xs ys : List ℕ) (m n : ℕ) → length xs ≤ m → length ys ≤ n → length (xs ++ ys) ≤ m + n
append_few xs ys m n l h = omega (arith, length-append xs ys)

rows_few : (k : ℕ) (t : ℕ → Bool) → length (map (word k) (those t)) ≤ 32
rows_few k t = map_few (word k) (those t) 32 (those_few t)

places_few : (i : ℕ) (groups : List ℕ) → length (places_words i (map place groups)) ≤ 65 * length groups
places_few i [] = omega arith
places_few i (g ∷ groups) =
    one_more _ (length groups) (append_few (place_words i (place g)) (places_words (1 + i) (map place groups)) 65 (65 * length groups) place_few (places_few (1 + i) groups))
  where
    one_more : (n k : ℕ) → n ≤ 65 + 65 * k → n ≤ 65 * suc k
    one_more n k l = omega arith

    after : (w : ℕ) (xs : List ℕ) → length xs ≤ 32 → length (w ∷ xs) ≤ 33
    after w xs l = omega arith

    place_few : length (place_words i (place g)) ≤ 65
    place_few = append_few (word 4 i ∷ map (word 5) (those (bit g))) (map (word 6) (those (λ s. bit g (32 + s)))) 33 32 (after (word 4 i) (map (word 5) (those (bit g))) (rows_few 5 (bit g))) (rows_few 6 (λ s. bit g (32 + s)))

pub few_words : (js : Jobs) (ws : List ℕ) → Draws js ws → length ws ≤ 16769
few_words js ws d = subst (λ vs. length vs ≤ 16769) (sym d.written)
    (append_few (map (word 1) (those (seen js))) _ 32 16737 (rows_few 1 (seen js))
    (append_few (map (word 2) (those (first js))) _ 32 16705 (rows_few 2 (first js))
    (append_few (map (word 3) (those (last js))) _ 32 16673 (rows_few 3 (last js))
    (append_few (places_words 0 (map place d.groups)) _ 16640 33 (most (length d.groups) d.few (places_few 0 d.groups))
    (append_few (map loop_word loops) _ 32 1 (map_few loop_word loops 32 (map_few seat (those (looping js)) 32 (those_few (looping js)))) (omega arith))))))
  where
    seat : ℕ → ℕ × ℕ
    seat t = (t, position (sits js t) d.groups)

    loops : List (ℕ × ℕ)
    loops = map seat (those (looping js))

    most : {n : ℕ} (k : ℕ) → k ≤ 256 → n ≤ 65 * k → n ≤ 16640
    most k l h = omega arith

-- ---- what a draw answers that has room for all words

pub declined : (steps len : ℕ) (js : Jobs) (old new : List ℕ) → length old ≡ 16769 → (fault : DrawFault) → Drew steps len js old new (Err fault) → DrawnFor steps len js (Err fault)
declined steps len js old new long (Void v) h = h.0
declined steps len js old new long TooMany h = (h.0, h.1)
declined steps len js old new long (Unseated t) h = (h.0, h.1)
declined steps len js old new long TooShort h = let (ws, d, short) = h.1 in omega (arith, few_words js ws d)
