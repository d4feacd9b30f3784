-- Words that are put one after the other
use Rattle.std.proofs.Common.{◌≡◌, ℕ, zero, suc, ◌+◌, ◌<◌, ◌≤◌, List, [], ◌∷◌, ◌++◌, map, get_or, filter, sym, refl, ap, ◌∙◌, subst, append_assoc, arith}
use Rattle.std.specs.List.{range_with_len, AllByRecursion as All}
use Rattle.std.proofs.lemmas.List.{append-nil, map-append}
use Rattle.std.proofs.lemmas.Bool.{cond_both}
use Rattle.cursors.specs.declared.Cursor.{Cursor}
use Rattle.cursors.specs.Adds.{Adds}
use Rattle.cursors.proofs.Adding.{adds_none, adds_same, adds_more}
use Rattle.flow.specs.Bits.{bit, members_from}
use Rattle.net.specs.Net.{word, loop_word}
use Rattle.net.specs.Writing.{step_words, loop_words}

-- one word, by what it is
pub adds_word : {before after : Cursor ℕ} {w x : ℕ} → w ≡ x → Adds before (w ∷ []) after → Adds before (x ∷ []) after
adds_word e = adds_same (ap (λ y. y ∷ []) e)

-- the steps of a set so far and those to come, and the words of the former
pub record Putting (before : Cursor ℕ) (f : ℕ → ℕ) (set : ℕ) (done left : List ℕ) (after : Cursor ℕ) : Type 0 where
  pub steps : members_from set 0 ≡ done ++ left
  pub put : Adds before (map f done) after

map_map : {X Y Z : Type 0} (g : Y → Z) (f : X → Y) (xs : List X) → map (λ x. g (f x)) xs ≡ map g (map f xs)
map_map g f [] = refl
map_map g f (x ∷ xs) = ap (λ z. g (f x) ∷ z) (map_map g f xs)

pub putting_none : (before : Cursor ℕ) (f : ℕ → ℕ) (set : ℕ) {left : List ℕ} → left ≡ members_from set 0 → Putting before f set [] left before
putting_none before f set e = record { steps = sym e; put = adds_none before }

module _ {before : Cursor ℕ} {f : ℕ → ℕ} {set : ℕ} where
  pub putting_more : {mid after : Cursor ℕ} {done left rest : List ℕ} {w step : ℕ} → Putting before f set done left mid → left ≡ step ∷ rest → w ≡ f step → Adds mid (w ∷ []) after → Putting before f set (done ++ step ∷ []) rest after
  putting_more {mid} {after} {done} {left} {rest} {w} {step} p e word q = record {
    steps = p.steps ∙ ap (λ z. done ++ z) e ∙ sym (append_assoc done (step ∷ []) rest);
    put = adds_same (sym (map-append f done (step ∷ []))) (adds_more p.put (adds_word word q));
  }

  pub putting_all : {after : Cursor ℕ} {done left : List ℕ} → Putting before f set done left after → left ≡ [] → Adds before (map f (members_from set 0)) after
  putting_all {after} {done} {left} p e = adds_same (ap (map f) (sym (p.steps ∙ ap (λ z. done ++ z) e ∙ append-nil done))) p.put

  -- the next of the steps is one
  pub putting_step : {after : Cursor ℕ} {done left rest : List ℕ} {step : ℕ} → Putting before f set done left after → left ≡ step ∷ rest → step < 32
  unfolding members_from
  putting_step {after} {done} {left} {rest} {step} p e = among done (subst (All (λ s. s < 32)) (p.steps ∙ ap (λ z. done ++ z) e) (below 32 0 (omega arith)))
    where
      below : (n a : ℕ) → a + n ≤ 32 → All (λ s. s < 32) (filter (bit set) (range_with_len a n))
      below zero a l = tt
      below (suc n) a l =
          let more = below n (a + 1) (omega arith) in
          cond_both (bit set a) (a ∷ filter (bit set) (range_with_len (a + 1) n)) (filter (bit set) (range_with_len (a + 1) n)) (All (λ s. s < 32)) (λ _. (omega arith, more)) (λ _. more)

      among : (xs : List ℕ) → All (λ s. s < 32) (xs ++ step ∷ rest) → step < 32
      among [] a = a.0
      among (x ∷ xs) a = among xs a.1

pub step_words_lem : {before after : Cursor ℕ} (kind set : ℕ) → Adds before (map (word kind) (members_from set 0)) after → Adds before (step_words kind (bit set)) after
unfolding step_words members_from
step_words_lem kind set a = a

-- the word of a looping step, by the numbers of the places
abbrev pub seat_word : List ℕ → ℕ → ℕ
seat_word seats t = loop_word (t, get_or seats t 0)

pub loop_words_lem : {before after : Cursor ℕ} (set : ℕ) (seats : List ℕ) → Adds before (map (seat_word seats) (members_from set 0)) after → Adds before (loop_words (bit set) (λ t. get_or seats t 0)) after
unfolding loop_words members_from
loop_words_lem set seats = adds_same (map_map loop_word (λ t. (t, get_or seats t 0)) (filter (bit set) (range_with_len 0 32)))
