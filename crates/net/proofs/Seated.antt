-- The seats by rows are the seats of the jobs
use Rattle.std.proofs.Common.{◌≡◌, ℕ, zero, suc, ◌+◌, ◌-◌, ◌<◌, ◌≤◌, Bool, true, false, not, ◌&&◌, List, [], ◌∷◌, ◌++◌, length, get_or, set, filter, sym, ap, ◌∙◌, subst, ⊎_elim, arith, below_more}
use mathlib.Core.List.{head-eq_of_cons-eq, tail-eq_of_cons-eq}
use Rattle.std.specs.List.{range_with_len}
use Rattle.std.proofs.lemmas.List.{get_or-set_same, get_or-set_other, length-map, length-set}
use Rattle.std.proofs.lemmas.Bool.{both_ways, cases_Bool, cases_eq, cases_lt, cond-true, cond-false}
use Rattle.flow.specs.declared.relations.Relations.{Relations}
use Rattle.flow.specs.Bits.{bit, members_from}
use Rattle.flow.specs.Flow.{Jobs, some, seen, first, last, looping}
use Rattle.flow.specs.Rows.{Shows}
use Rattle.net.specs.Draw.{LowestUnseated}
use Rattle.net.specs.Net.{Draws, Places, Seated, steps, same, every, sits, position, place, word, words, net}
use Rattle.net.specs.Seating.{LowestBy, SeatsBelow, between, sits_by}
use Rattle.net.specs.Writing.{step_words, groups_words, loop_words, words_by}
use Rattle.net.proofs.Shown.{same_steps, same_loops_lem}

module _ (r : Relations) (groups seats : List ℕ) (n : ℕ) where
  pub seats_take : (k : ℕ) → n < length seats → (some (sits_by r n) groups ≡ true) → k ≡ position (sits_by r n) groups → SeatsBelow r groups seats n → SeatsBelow r groups (set seats n k) (n + 1)
  seats_take k l s e below = below_more _ n
      (λ t lt loops. let b = below t lt loops in (b.0, get_or-set_other seats n t k 0 (λ q. omega arith) ∙ b.1))
      (λ _. (s, get_or-set_same seats n k 0 l ∙ e))

-- the steps of a set from m on: none is left, or the next is s, and those that are passed over are not in it
module _ (g : ℕ) where
  abbrev Next : ℕ → ℕ → ℕ → List ℕ → Type 0
  Next n m s rest = (s < m + n) × (bit g s ≡ true) × ((k : ℕ) → m ≤ k → k < s → bit g k ≡ false) × (rest ≡ filter (bit g) (range_with_len (s + 1) (m + n - (s + 1))))

  walk : (n m s : ℕ) (rest : List ℕ) → filter (bit g) (range_with_len m n) ≡ s ∷ rest → Next n m s rest
  walk zero m s rest p = grind arith
  walk (suc n) m s rest p = ⊎_elim here (there (walk n (m + 1) s rest)) (cases_Bool (bit g m))
    where
      here : bit g m ≡ true → Next (suc n) m s rest
      here t =
          let e = sym (cond-true (bit g m) (m ∷ filter (bit g) (range_with_len (m + 1) n)) (filter (bit g) (range_with_len (m + 1) n)) t) ∙ p in
          let h : m ≡ s = head-eq_of_cons-eq e in
          let l : n ≡ m + suc n - (m + 1) = omega arith in
          subst (λ x. Next (suc n) m x rest) h (omega arith, t, λ k a b. absurd (omega arith), sym (tail-eq_of_cons-eq e) ∙ ap (λ x. filter (bit g) (range_with_len (m + 1) x)) l)

      there : (filter (bit g) (range_with_len (m + 1) n) ≡ s ∷ rest → Next n (m + 1) s rest) → bit g m ≡ false → Next (suc n) m s rest
      there later f =
          let e = sym (cond-false (bit g m) (m ∷ filter (bit g) (range_with_len (m + 1) n)) (filter (bit g) (range_with_len (m + 1) n)) f) ∙ p in
          let more = later e in
          let l : m + 1 + n ≡ m + suc n = omega arith in
          (omega (arith, more.0), more.1, λ k a b. ⊎_elim (λ q. ap (bit g) q ∙ f) (λ q. more.2 k (omega arith) b) (cases_eq k m), more.3 ∙ ap (λ x. filter (bit g) (range_with_len (s + 1) (x - (s + 1)))) l)

  none_left : (n m : ℕ) → filter (bit g) (range_with_len m n) ≡ [] → (k : ℕ) → m ≤ k → k < m + n → bit g k ≡ false
  none_left zero m p k a b = absurd (omega arith)
  none_left (suc n) m p k a b =
      ⊎_elim (λ t. let e = sym (cond-true (bit g m) (m ∷ filter (bit g) (range_with_len (m + 1) n)) (filter (bit g) (range_with_len (m + 1) n)) t) ∙ p in grind arith)
      (λ f. let e = sym (cond-false (bit g m) (m ∷ filter (bit g) (range_with_len (m + 1) n)) (filter (bit g) (range_with_len (m + 1) n)) f) ∙ p in
      ⊎_elim (λ q. ap (bit g) q ∙ f) (λ q. none_left n (m + 1) e k (omega arith) (omega arith)) (cases_eq k m))
      (cases_Bool (bit g m))

-- the looping steps from m on are still to come, and each below m has its seat
pub record Seating (r : Relations) (groups seats left : List ℕ) : Type 0 where
  pub from : ℕ
  pub start : from ≤ 32
  pub steps : left ≡ members_from r.looping from
  pub long : length seats ≡ 32
  pub below : SeatsBelow r groups seats from

module _ {r : Relations} {groups seats left : List ℕ} (s : Seating r groups seats left) where
  next_step : {step : ℕ} {rest : List ℕ} → left ≡ step ∷ rest → Next r.looping (32 - s.from) s.from step rest
  unfolding members_from
  next_step e = walk r.looping (32 - s.from) s.from _ _ (sym s.steps ∙ e)

  pub up_to : {step : ℕ} {rest : List ℕ} → left ≡ step ∷ rest → (step < 32) × (bit r.looping step ≡ true) × SeatsBelow r groups seats step
  up_to {step} e =
      let n = next_step e in
      (omega (arith, n.0, s.start), n.1, λ t l loops. ⊎_elim (λ low. s.below t low loops) (λ high. absurd (both_ways (bit r.looping t) (n.2 t high l) loops)) (cases_lt t s.from))

  pub seated_next : {step k : ℕ} {rest : List ℕ} → left ≡ step ∷ rest → (some (sits_by r step) groups ≡ true) → k ≡ position (sits_by r step) groups → Seating r groups (set seats step k) rest
  unfolding members_from
  seated_next {step} {k} {rest} e there is =
      let n = next_step e in
      let u = up_to e in
      let l : s.from + (32 - s.from) ≡ 32 = omega (arith, s.start) in
      record {
        from = step + 1;
        start = omega (arith, u.0);
        steps = n.3 ∙ ap (λ x. filter (bit r.looping) (range_with_len (step + 1) (x - (step + 1)))) l;
        long = length-set seats step k ∙ s.long;
        below = seats_take r groups seats step k (omega (arith, u.0, s.long)) there is u.2;
      }

  pub all_seated : left ≡ [] → SeatsBelow r groups seats 32
  unfolding members_from
  all_seated e = λ t l loops. ⊎_elim (λ low. s.below t low loops)
      (λ high. absurd (both_ways (bit r.looping t) (none_left r.looping (32 - s.from) s.from (sym s.steps ∙ e) t high (omega (arith, s.start))) loops)) (cases_lt t s.from)

pub seating_none : (r : Relations) (groups seats : List ℕ) {left : List ℕ} → length seats ≡ 32 → left ≡ members_from r.looping 0 → Seating r groups seats left
seating_none r groups seats long e = record { from = 0; start = omega arith; steps = e; long = long; below = λ t l. absurd (omega arith) }

module _ (js : Jobs) (r : Relations) (shows : Shows js r) (groups : List ℕ) where
  sits_shown : (t : ℕ) → sits_by r t ≡ sits js t
  unfolding between
  sits_shown t = λ i g.
      let before : ℕ → Bool = λ s. shows.followed_is s t i && not (shows.looping_is s i) in
      let after : ℕ → Bool = λ s. shows.follows_is t s i && not (shows.looping_is s i) in
      every (λ s. same (bit g s) (before s && not (after s)) && same (bit g (32 + s)) (after s && not (before s))) steps

  pub lowest : (t : ℕ) → LowestBy r groups t → LowestUnseated js groups t
  lowest t low = record {
    step = low.step;
    loops = sym (shows.looping_is t) ∙ low.loops;
    unseated = subst (λ test. some test groups ≡ false) (sits_shown t) low.unseated;
    lowest = λ s l h. subst (λ test. some test groups ≡ true) (sits_shown s) (low.lowest s l (shows.looping_is s ∙ h));
  }

  module _ (seats : List ℕ) (below : SeatsBelow r groups seats 32) where
    seated : Seated js groups
    seated t l h = subst (λ test. some test groups ≡ true) (sits_shown t) (below t l (shows.looping_is t ∙ h)).0

    loops_shown : loop_words (bit r.looping) (λ t. get_or seats t 0) ≡ loop_words (looping js) (λ t. position (sits js t) groups)
    loops_shown = same_loops_lem (bit r.looping) (looping js) _ _ (λ k _. shows.looping_is k)
        (λ k l h. (below k l (shows.looping_is k ∙ h)).1 ∙ ap (λ test. position test groups) (sits_shown k))

    words_shown : words_by r groups seats ≡ words (net js groups)
    unfolding words_by step_words groups_words loop_words
    words_shown =
        let a = same_steps 1 (bit r.seen) (seen js) (λ k _. shows.seen_is k) in
        let b = same_steps 2 (bit r.first) (first js) (λ k _. shows.first_is k) in
        let c = same_steps 3 (bit r.last) (last js) (λ k _. shows.last_is k) in
        λ i. a i ++ (b i ++ (c i ++ (groups_words groups ++ (loops_shown i ++ word 8 (sym (length-map groups place) i) ∷ []))))

    pub draws : Places js groups → length groups ≤ 256 → Draws js (words_by r groups seats)
    draws listed few = record { groups = groups; listed = listed; few = few; seated = seated; written = words_shown }
