-- What a test of one job says, by positions in the job
use Rattle.std.proofs.Common.{◌≡◌, ℕ, zero, suc, ◌<◌, Bool, true, false, ◌&&◌, ◌||◌, eqb, ◌⊎◌, List, [], ◌∷◌, length, get_or, Decides, refl, ap, inl, inr, arith}
use Rattle.std.proofs.lemmas.Bool.{both_ways, eqb-true, eq-eqb}
use Rattle.std.proofs.lemmas.Bool.Decides.{Decides-at, Decides-like, Decides-and, Decides-or, Decides-eqb}
use Rattle.flow.specs.Flow.{some, has, begins, ends, next, begins_two, three}

-- the event k of the job is the step s
abbrev pub On : List ℕ → ℕ → ℕ → Type 0
On [] k s = ⊥
On (x ∷ xs) zero s = x ≡ s
On (x ∷ xs) (suc k) s = On xs k s

pub on_from : (xs : List ℕ) (k s : ℕ) → k < length xs → get_or xs k 0 ≡ s → On xs k s
on_from [] k s lt e = absurd (omega arith)
on_from (x ∷ xs) zero s lt e = e
on_from (x ∷ xs) (suc k) s lt e = on_from xs k s (omega arith) e

pub on_gives : (xs : List ℕ) (k s : ℕ) → On xs k s → (k < length xs) × (get_or xs k 0 ≡ s)
on_gives [] k s h = absurd h
on_gives (x ∷ xs) zero s h = (omega arith, h)
on_gives (x ∷ xs) (suc k) s h = let r = on_gives xs k s h in (omega (arith, r.0), r.1)

pub decides_none : {P : Type 0} → (P → ⊥) → Decides false P
decides_none n = (λ e. absurd (both_ways false refl e), λ p. absurd (n p))

-- a test that looks at a list from each position on says that P holds at some position
module _ {X : Type 0} (P : List X → ℕ → Type 0) (t : X → List X → Bool) (f : List X → Bool)
    (here : (x : X) (xs : List X) → Decides (t x xs) (P (x ∷ xs) 0)) (none : (k : ℕ) → P [] k → ⊥)
    (less : (x : X) (xs : List X) (k : ℕ) → P (x ∷ xs) (suc k) → P xs k) (more : (x : X) (xs : List X) (k : ℕ) → P xs k → P (x ∷ xs) (suc k))
    (f-none : f [] ≡ false) (f-more : (x : X) (xs : List X) → f (x ∷ xs) ≡ (t x xs || f xs)) where
  found : (x : X) (xs : List X) → P (x ∷ xs) 0 ⊎ ((k : ℕ) × P xs k) → (k : ℕ) × P (x ∷ xs) k
  found x xs (inl h) = (0, h)
  found x xs (inr h) = (suc h.0, more x xs h.0 h.1)

  where_found : (x : X) (xs : List X) (k : ℕ) → P (x ∷ xs) k → P (x ∷ xs) 0 ⊎ ((k : ℕ) × P xs k)
  where_found x xs zero h = inl h
  where_found x xs (suc k) h = inr (k, less x xs k h)

  pub decides_along : (xs : List X) → Decides (f xs) ((k : ℕ) × P xs k)
  decides_along [] = Decides-at (f []) false f-none (decides_none (λ h. none h.0 h.1))
  decides_along (x ∷ xs) =
      let either = Decides-or (t x xs) (f xs) (here x xs) (decides_along xs) in
      Decides-at (f (x ∷ xs)) (t x xs || f xs) (f-more x xs) (Decides-like (t x xs || f xs) (found x xs) (λ h. where_found x xs h.0 h.1) either)

pub begins_means : (s : ℕ) (xs : List ℕ) → Decides (begins s xs) (On xs 0 s)
begins_means s [] = decides_none (λ h. h)
begins_means s (x ∷ xs) = Decides-eqb x s

begins_two_means : (a b : ℕ) (xs : List ℕ) → Decides (begins_two a b xs) (On xs 0 a × On xs 1 b)
begins_two_means a b [] = decides_none (λ h. h.0)
begins_two_means a b (x ∷ xs) = Decides-and (eqb x a) (begins b xs) (Decides-eqb x a) (begins_means b xs)

pub has_means : (s : ℕ) (xs : List ℕ) → Decides (has s xs) ((k : ℕ) × On xs k s)
has_means s = decides_along (λ xs k. On xs k s) (λ x _. eqb x s) (has s) (λ x _. Decides-eqb x s) (λ _ h. h) (λ _ _ _ h. h) (λ _ _ _ h. h) refl (λ _ _. refl)

pub next_means : (a b : ℕ) (xs : List ℕ) → Decides (next a b xs) ((k : ℕ) × (On xs k a × On xs (suc k) b))
next_means a b =
    decides_along (λ xs k. On xs k a × On xs (suc k) b) (λ x xs. eqb x a && begins b xs) (next a b) (λ x xs. begins_two_means a b (x ∷ xs))
    (λ _ h. h.0) (λ _ _ _ h. h) (λ _ _ _ h. h) refl (λ _ _. refl)

pub three_means : (a b c : ℕ) (xs : List ℕ) → Decides (three a b c xs) ((k : ℕ) × (On xs k a × On xs (suc k) b × On xs (suc (suc k)) c))
three_means a b c =
    decides_along (λ xs k. On xs k a × On xs (suc k) b × On xs (suc (suc k)) c) (λ x xs. eqb x a && begins_two b c xs) (three a b c)
    (λ x xs. Decides-like (eqb x a && begins_two b c xs) (λ h. (h.0, h.1.0, h.1.1)) (λ h. (h.0, (h.1, h.2))) (Decides-and (eqb x a) (begins_two b c xs) (Decides-eqb x a) (begins_two_means b c xs)))
    (λ _ h. h.0) (λ _ _ _ h. h) (λ _ _ _ h. h) refl (λ _ _. refl)

pub ends_means : (s : ℕ) (xs : List ℕ) → Decides (ends s xs) ((k : ℕ) × On xs k s × (length xs ≡ suc k))
ends_means s [] = decides_none (λ h. h.1)
ends_means s (x ∷ []) = (λ e. (0, eqb-true x s e, refl), λ h. back h.0 h.1)
  where
    back : (k : ℕ) → On (x ∷ []) k s → eqb x s ≡ true
    back zero h = eq-eqb x s h
    back (suc k) h = absurd h
ends_means s (x ∷ (y ∷ ys)) =
    let rest = ends_means s (y ∷ ys) in (
      (λ e. let r = rest.0 e in (suc r.0, r.1, ap suc r.2)),
      λ h. rest.1 (back h.0 h.1 h.2),
    )
  where
    back : (k : ℕ) → On (x ∷ (y ∷ ys)) k s → length (x ∷ (y ∷ ys)) ≡ suc k → (k : ℕ) × On (y ∷ ys) k s × (length (y ∷ ys) ≡ suc k)
    back zero h e = absurd (omega arith)
    back (suc k) h e = (k, h, omega arith)

-- some element of the list passes a test
pub some_means : {X : Type 0} (t : X → Bool) (P : X → Type 0) (d : X) → ((x : X) → Decides (t x) (P x)) → (xs : List X) → Decides (some t xs) ((i : ℕ) × ((i < length xs) × P (get_or xs i d)))
some_means t P d each =
    decides_along (λ xs i. (i < length xs) × P (get_or xs i d)) (λ x _. t x) (some t) (λ x xs. Decides-like (t x) (λ h. (omega arith, h)) (λ h. h.1) (each x))
    (λ i h. omega (arith, h.0)) (λ x xs i h. (omega (arith, h.0), h.1)) (λ x xs i h. (omega (arith, h.0), h.1)) refl (λ _ _. refl)
