-- What `any` answers that asks each of the 32 steps
use Rattle.std.proofs.Common.{◌≡◌, ℕ, ◌<◌, Bool, true, false, ◌↔◌, List, MatchOption, Option, get_or, true≢false, sym, refl, ◌∙◌, subst, arith}
use denote.Param.Members.{Mut}
use Rattle.std.specs.Bool.{MatchBool}
use Rattle.std.specs.Fn.{Called}
use Rattle.std.specs.Iterator.{YieldsThen}
use Rattle.std.specs.List.{FoldsTo, range_with_len, AllWithin, HoldsAt}
use Rattle.std.specs.declared.ops.Range.{Range}
use Rattle.std.proofs.iter.Yields.{nat_range_steps}
use Rattle.std.proofs.lemmas.Iterator.{cases_from_any, YieldsList-from_range}
use Rattle.std.proofs.lemmas.List.FromFn.{get_or-range_with_len}

-- the clause `ran` of `any` over `0..32`, with the closure f
abbrev pub Ran : {F : Type 0} (g : Mut F (ℕ × Unit {0}) Bool) → Range ℕ → F → Bool → Type 0
Ran {F} g u f r =
    (xs : List ℕ) × (o : Option ℕ) × (j : F) × YieldsThen nat_range_steps (record { start = 0; end = 32 }) xs o u × FoldsTo (λ p x q. Called g p (x, tt) false q) f xs j
    × MatchOption o (r ≡ false) (λ x. (r ≡ true) × ((h : F) × Called g j (x, tt) true h))

module _ {F : Type 0} {g : Mut F (ℕ × Unit {0}) Bool} (u : Range ℕ) (f : F) where
  any_step : (r : Bool) (Yes No : ℕ → Type 0) → Ran g u f r → ((x : ℕ) (q : F) → Called g f (x, tt) true q → Yes x) → ((x : ℕ) (q : F) → Called g f (x, tt) false q → (q ≡ f) × No x)
      → MatchBool r ((s : ℕ) × (s < 32) × Yes s) ((s : ℕ) → s < 32 → No s)
  any_step r Yes No ran passed failed = go r (cases_from_any u f r Yes No ran (YieldsList-from_range 0 32 32 refl refl) passed failed)
    where
      at : (k : ℕ) → k < 32 → get_or (range_with_len 0 32) k 0 ≡ k
      at k l = get_or-range_with_len 0 32 k 0 l ∙ omega arith

      go : (r : Bool) → MatchBool r ((k : ℕ) × (k < 32) × HoldsAt Yes (range_with_len 0 32) k) (AllWithin No (range_with_len 0 32) 0 32) → MatchBool r ((s : ℕ) × (s < 32) × Yes s) ((s : ℕ) → s < 32 → No s)
      go true (k, l, y) = (k, l, subst Yes (at k l) (y 0))
      go false all = λ s l. subst No (at s l) (all s 0 (omega arith) l)

  -- yes exactly if some step has P
  pub any_has : (r : Bool) (P : ℕ → Type 0) → Ran g u f r → ((x : ℕ) (q : F) → Called g f (x, tt) true q → P x) → ((x : ℕ) (q : F) → Called g f (x, tt) false q → (q ≡ f) × (P x → ⊥))
      → (r ≡ true) ↔ ((s : ℕ) × (s < 32) × P s)
  any_has true P ran passed failed = let a = any_step true P (λ s. P s → ⊥) ran passed failed in (λ _. a, λ _. refl)
  any_has false P ran passed failed = let a = any_step false P (λ s. P s → ⊥) ran passed failed in (λ e. absurd (true≢false (sym e)), λ h. absurd (a h.0 h.1 h.2))

  -- no exactly if each step has P
  pub any_lacks : (r : Bool) (P : ℕ → Type 0) → Ran g u f r → ((x : ℕ) (q : F) → Called g f (x, tt) true q → P x → ⊥) → ((x : ℕ) (q : F) → Called g f (x, tt) false q → (q ≡ f) × P x)
      → (r ≡ false) ↔ ((s : ℕ) → s < 32 → P s)
  any_lacks true P ran passed failed = let a = any_step true (λ s. P s → ⊥) P ran passed failed in (λ e. absurd (true≢false e), λ all. absurd (a.2 (all a.0 a.1)))
  any_lacks false P ran passed failed = let a = any_step false (λ s. P s → ⊥) P ran passed failed in (λ _. a, λ _. refl)
