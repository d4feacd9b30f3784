-- There is one first place. Assumes nothing.
use Rattle.std.proofs.Common.{◌≡◌, ℕ, ◌<◌, List, [], ◌∷◌, length, get_or, MatchOption, Some, None, Option, sym, refl, ap, ⊎_elim, arith}
use Rattle.std.proofs.lemmas.Bool.{cases_order}
use Rattle.std.specs.List.{AllWithin, HoldsAt}
use Rattle.steps.specs.Rosters.{Listed, FirstUnlisted}

-- the first place below n that is P, where those ahead of it are Q
abbrev First : (P Q : ℕ → Type 0) → ℕ → Option ℕ → Type 0
First P Q n None = (k : ℕ) → k < n → Q k
First P Q n (Some i) = (i < n) × P i × ((k : ℕ) → k < i → Q k)

first_once : (P Q : ℕ → Type 0) (n : ℕ) → ((k : ℕ) → k < n → P k → Q k → ⊥) → (r s : Option ℕ) → First P Q n r → First P Q n s → s ≡ r
first_once P Q n apart None None p q = refl
first_once P Q n apart None (Some j) p q = absurd (apart j q.0 q.1 (p j q.0))
first_once P Q n apart (Some i) None p q = absurd (apart i p.0 p.1 (q i p.0))
first_once P Q n apart (Some i) (Some j) p q =
    ⊎_elim (λ e. ap Some (sym e)) (⊎_elim (λ l. absurd (apart i p.0 p.1 (q.2 i l))) (λ l. absurd (apart j q.0 q.1 (p.2 j l)))) (cases_order i j)

pub unlisted_once : {S : Type 0} (steps job : List S) (r s : Option ℕ) → FirstUnlisted steps job r → FirstUnlisted steps job s → s ≡ r
unlisted_once {S} steps job r s p q =
    first_once (λ k. (d : S) → Listed steps (get_or job k d) → ⊥) (λ k. (d : S) → Listed steps (get_or job k d)) (length job) (apart job) r s (as_first r p) (as_first s q)
  where
    apart : (xs : List S) (k : ℕ) → k < length xs → ((d : S) → Listed steps (get_or xs k d) → ⊥) → ((d : S) → Listed steps (get_or xs k d)) → ⊥
    apart [] k l no_one all = omega arith
    apart (x ∷ xs) k l no_one all = no_one x (all x)

    as_first : (o : Option ℕ) → FirstUnlisted steps job o → First (λ k. (d : S) → Listed steps (get_or job k d) → ⊥) (λ k. (d : S) → Listed steps (get_or job k d)) (length job) o
    as_first None h = h
    as_first (Some i) h = h

-- what `position` says of the first event that is not listed
pub unlisted_from_first : {S : Type 0} (steps job : List S) (r : Option ℕ) → MatchOption r (AllWithin (Listed steps) job 0 (length job)) (λ i. (i < length job) × HoldsAt (λ x. Listed steps x → ⊥) job i × AllWithin (Listed steps) job 0 i) → FirstUnlisted steps job r
unlisted_from_first steps job None all = λ k h d. all k d (omega arith) h
unlisted_from_first steps job (Some i) (l, not, all) = (l, not, λ k h d. all k d (omega arith) h)
