-- A run of name bytes at an offset. Assumes nothing.
use Rattle.std.proofs.Common.{◌≡◌, ℕ, zero, suc, ◌+◌, ◌<◌, ◌≤◌, Bool, true, false, cond, List, [], ◌∷◌, length, get_or, take, drop, sym, refl, ap, ◌∙◌, ⊎_elim, arith}
use Rattle.std.proofs.lemmas.List.{drop_more, drop_all}
use Rattle.std.proofs.lemmas.Bool.{cases_lt, cases_Bool, and_from}
use Rattle.std.specs.List.{prefix_len}
use Rattle.steps.specs.Ranges.{name_byte, name_bytes}
use Rattle.texts.specs.Tokens.{run}

-- a run is the longest prefix of name bytes of the first m
pub run_prefix : (m : ℕ) (bs : List ℕ) → prefix_len name_byte (take m bs) ≡ run m bs
run_prefix zero bs = refl
run_prefix (suc m) [] = refl
run_prefix (suc m) (b ∷ bs) = let e = run_prefix m bs in elim (name_byte b) as (λ x. cond x (1 + prefix_len name_byte (take m bs)) 0 ≡ cond x (suc (run m bs)) 0) [ true ↦ omega arith | false ↦ refl ]

module _ (text : List ℕ) (i : ℕ) where
  -- the run at i, by the byte there
  run_at : (m : ℕ) → i < length text → run (suc m) (drop i text) ≡ cond (name_byte (get_or text i 0)) (suc (run m (drop (i + 1) text))) 0
  run_at m h = ap (run (suc m)) (drop_more text i 0 h)

  run_stops : (m : ℕ) → i < length text → false ≡ name_byte (get_or text i 0) → run m (drop i text) ≡ 0
  run_stops zero h e = refl
  run_stops (suc m) h e = run_at m h ∙ ap (λ b. cond b (suc (run m (drop (i + 1) text))) 0) (sym e)

  run_past : (m : ℕ) → length text ≤ i → run m (drop i text) ≡ 0
  run_past zero h = refl
  run_past (suc m) h = ap (run (suc m)) (drop_all i text h)

  -- where a run is not empty, it starts with a name byte
  pub run_starts : (m : ℕ) → 0 < run m (drop i text) → (i < length text) × (name_byte (get_or text i 0) ≡ true)
  run_starts m some = ⊎_elim inside (λ past. absurd (omega (arith, run_past m past))) (cases_lt i (length text))
    where
      inside : i < length text → (i < length text) × (name_byte (get_or text i 0) ≡ true)
      inside h = ⊎_elim (λ e. (h, e)) (λ e. absurd (omega (arith, run_stops m h (sym e)))) (cases_Bool (name_byte (get_or text i 0)))

-- a run is within its bound and its text, has name bytes only, and goes on as long as it can
pub record Running (m : ℕ) (bs : List ℕ) (r : ℕ) : Type 0 where
  pub bound : r ≤ m
  pub within : r ≤ length bs
  pub named : name_bytes (take r bs) ≡ true
  pub longest : r < m → r < length bs → name_byte (get_or bs r 0) ≡ false

pub running : (m : ℕ) (bs : List ℕ) → Running m bs (run m bs)
running zero bs = record { bound = omega arith; within = omega arith; named = refl; longest = λ h k. absurd (omega arith) }
running (suc m) [] = record { bound = omega arith; within = omega arith; named = refl; longest = λ h k. absurd (omega arith) }
running (suc m) (b ∷ bs) = by (name_byte b) refl (running m bs)
  where
    by : (x : Bool) → name_byte b ≡ x → Running m bs (run m bs) → Running (suc m) (b ∷ bs) (cond x (suc (run m bs)) 0)
    by true e r = record {
      bound = omega (arith, r.bound);
      within = omega (arith, r.within);
      named = and_from (name_byte b) (name_bytes (take (run m bs) bs)) e r.named;
      longest = λ h k. r.longest (omega arith) (omega arith);
    }
    by false e r = record { bound = omega arith; within = omega arith; named = refl; longest = λ h k. e }
