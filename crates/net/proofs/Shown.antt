-- The words by rows are the words of the net of the jobs
use Rattle.std.proofs.Common.{◌≡◌, ℕ, zero, suc, ◌+◌, ◌<◌, Bool, true, List, [], ◌∷◌, ◌++◌, map, length, get_or, take, filter, sym, refl, ap, ◌∙◌, ap₂, ⊎_elim, arith}
use Rattle.std.specs.List.{range_with_len}
use Rattle.std.proofs.lemmas.Bool.{cases_Bool, cond-true, cond-false}
use Rattle.std.proofs.lemmas.List.{append-nil, append_assoc, length-map, length-take-le, map_more}
use Rattle.flow.specs.Bits.{bit}
use Rattle.net.specs.Net.{Place, those, word, place, place_words, places_words, loop_word}
use Rattle.net.specs.Writing.{step_words, group_words, groups_words, loop_words}

-- tests that agree below n, and values that agree where they pass
module _ {X : Type 0} (f g : ℕ → X) (p q : ℕ → Bool) where
  same_from : (n a : ℕ) → ((k : ℕ) → k < a + n → p k ≡ q k) → ((k : ℕ) → k < a + n → q k ≡ true → f k ≡ g k) → map f (filter p (range_with_len a n)) ≡ map g (filter q (range_with_len a n))
  same_from zero a tests values = refl
  same_from (suc n) a tests values =
      let rest = same_from n (a + 1) (λ k l. tests k (omega arith)) (λ k l. values k (omega arith)) in
      let here = tests a (omega arith) in
      ⊎_elim
      (λ t. ap (map f) (cond-true (p a) _ _ (here ∙ t)) ∙ ap₂ ◌∷◌ (values a (omega arith) t) rest ∙ sym (ap (map g) (cond-true (q a) _ _ t)))
      (λ t. ap (map f) (cond-false (p a) _ _ (here ∙ t)) ∙ rest ∙ sym (ap (map g) (cond-false (q a) _ _ t)))
      (cases_Bool (q a))

  same_kept : ((k : ℕ) → k < 32 → p k ≡ q k) → ((k : ℕ) → k < 32 → q k ≡ true → f k ≡ g k) → map f (those p) ≡ map g (those q)
  same_kept tests values = same_from 32 0 tests values

pub same_steps : (kind : ℕ) (p q : ℕ → Bool) → ((k : ℕ) → k < 32 → p k ≡ q k) → step_words kind p ≡ step_words kind q
unfolding step_words
same_steps kind p q tests = same_kept (word kind) (word kind) p q tests (λ _ _ _. refl)

pub same_loops_lem : (p q : ℕ → Bool) (f g : ℕ → ℕ) → ((k : ℕ) → k < 32 → p k ≡ q k) → ((k : ℕ) → k < 32 → q k ≡ true → f k ≡ g k) → loop_words p f ≡ loop_words q g
unfolding loop_words
same_loops_lem p q f g tests values = ap (map loop_word) (same_kept (λ t. (t, f t)) (λ t. (t, g t)) p q tests (λ k l t. ap (λ n. (k, n)) (values k l t)))

-- the words of a place, by its two sets
pub place_words_lem : (number g from to : ℕ) → ((s : ℕ) → s < 32 → bit from s ≡ bit g s) → ((s : ℕ) → bit to s ≡ bit g (32 + s))
    → (word 4 number ∷ step_words 5 (bit from)) ++ step_words 6 (bit to) ≡ group_words number g
unfolding step_words group_words
place_words_lem number g from to low high =
    ap₂ (λ xs ys. (word 4 number ∷ xs) ++ ys) (same_steps 5 (bit from) (bit g) low) (same_steps 6 (bit to) (λ s. bit g (32 + s)) (λ s _. high s))

places_more : (n : ℕ) (ps : List Place) (q : Place) → places_words n (ps ++ q ∷ []) ≡ places_words n ps ++ place_words (n + length ps) q
places_more n [] q = append-nil (place_words n q) ∙ ap (λ m. place_words m q) (omega arith)
places_more n (p ∷ ps) q =
    ap (λ z. place_words n p ++ z) (places_more (1 + n) ps q ∙ ap (λ m. places_words (1 + n) ps ++ place_words m q) (omega arith))
    ∙ sym (append_assoc (place_words n p) (places_words (1 + n) ps) (place_words (n + suc (length ps)) q))

pub groups_more : (groups : List ℕ) (k : ℕ) → k < length groups → groups_words (take (k + 1) groups) ≡ groups_words (take k groups) ++ group_words k (get_or groups k 0)
unfolding groups_words group_words
groups_more groups k l =
    let long : 0 + length (map place (take k groups)) ≡ k = (let a = length-map (take k groups) place in let b = length-take-le k groups (omega arith) in omega arith) in
    ap (places_words 0) (map_more place groups k 0 l) ∙ places_more 0 (map place (take k groups)) (place (get_or groups k 0))
    ∙ ap (λ m. places_words 0 (map place (take k groups)) ++ place_words m (place (get_or groups k 0))) long

pub groups_none : groups_words [] ≡ []
unfolding groups_words
groups_none = refl
