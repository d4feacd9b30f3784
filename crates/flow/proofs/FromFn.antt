-- What holds of each item of an array that a function of the index made
use Rattle.std.proofs.Common.{◌≡◌, ℕ, zero, suc, ◌+◌, ◌<◌, ◌≤◌, List, get_or, sym, subst, ⊎_elim, arith}
use denote.Param.Members.{Mut, Called}
use Rattle.std.proofs.lemmas.Bool.{cases_eq}
use Rattle.std.specs.Array.{IsFromFnResult, IsFromFnResultFrom}

module _ {F B : Type 0} (g : Mut F (ℕ × Unit {0}) B) (f : F) (P : ℕ → B → Type 0) (each : (i : ℕ) (y : B) (q : F) → Called g f (i, tt) y q → (q ≡ f) × P i y) (ys : List B) where
  made_from : (n i : ℕ) → IsFromFnResultFrom g f ys i n → (k : ℕ) (d : B) → i ≤ k → k < i + n → P k (get_or ys k d)
  made_from zero i h k d l m = absurd (omega arith)
  made_from (suc n) i (q, y, at, called, rest) k d l m =
      let e = each i y q called in
      ⊎_elim
      (λ s. subst (λ j. P j (get_or ys j d)) s (subst (P i) (sym (at.1 d)) e.1))
      (λ o. made_from n (i + 1) (subst (λ p. IsFromFnResultFrom g p ys (i + 1) n) e.0 rest) k d (omega arith) (omega arith))
      (cases_eq i k)

  pub made : (n : ℕ) → IsFromFnResult g f ys n → (k : ℕ) (d : B) → k < n → P k (get_or ys k d)
  made n h k d l = made_from n 0 h.each k d (omega arith) (omega arith)
