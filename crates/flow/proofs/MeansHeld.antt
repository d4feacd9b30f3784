-- What a test of the steps kept of a job says, by positions in the job as it is held
use Rattle.std.proofs.Common.{◌≡◌, ℕ, zero, suc, ◌+◌, ◌<◌, Bool, true, false, cond, ◌&&◌, ◌||◌, eqb, List, [], ◌∷◌, map, drop, Decides, filter, sym, refl, ap, subst, inl, inr, arith}
use Rattle.std.proofs.lemmas.Bool.{both_ways, cases_Bool, cond-true, cond-false, eqb-true, eq-eqb}
use Rattle.std.proofs.lemmas.Bool.Decides.{Decides-at, Decides-like, Decides-and, Decides-eqb}
use Rattle.flow.specs.Flow.{some, begins, next}
use Rattle.flow.proofs.MeansJob.{On, decides_none, decides_along}

-- the event l of what is left after n events is the event n + l
pub on_drop : (xs : List ℕ) (n l k s : ℕ) → n + l ≡ k → (On (drop n xs) l s → On xs k s) × (On xs k s → On (drop n xs) l s)
on_drop xs zero l k s e = let same : l ≡ k = omega arith in (subst (λ j. On xs j s) same, subst (λ j. On xs j s) (sym same))
on_drop [] (suc n) l k s e = (λ h. h, λ h. h)
on_drop (x ∷ xs) (suc n) l zero s e = absurd (omega arith)
on_drop (x ∷ xs) (suc n) l (suc k) s e = on_drop xs n l k s (omega arith)

pub some_map : {X Y : Type 0} (t : Y → Bool) (f : X → Y) (xs : List X) → some t (map f xs) ≡ some (λ x. t (f x)) xs
some_map t f [] = refl
some_map t f (x ∷ xs) = ap (λ r. t (f x) || r) (some_map t f xs)

module _ (t : ℕ → Bool) where
  -- b is kept, is the event l, and nothing is kept before it
  abbrev pub Ahead : ℕ → List ℕ → ℕ → Type 0
  Ahead b xs l = On xs l b × (t b ≡ true) × ((m s : ℕ) → m < l → On xs m s → t s ≡ false)

  -- a is kept and is the event k, and b is the next one kept
  abbrev pub Kept : ℕ → ℕ → List ℕ → ℕ → Type 0
  Kept a b xs k = (t a ≡ true) × On xs k a × ((l : ℕ) × Ahead b (drop (suc k) xs) l)

  begins_kept : (b : ℕ) (xs : List ℕ) → Decides (begins b (filter t xs)) ((l : ℕ) × Ahead b xs l)
  begins_kept b [] = decides_none (λ h. h.1.0)
  begins_kept b (x ∷ xs) =
      elim (cases_Bool (t x)) [
        | inl keep ↦ Decides-at _ (eqb x b) (ap (begins b) (cond-true (t x) (x ∷ filter t xs) (filter t xs) keep))
            (λ e. let same = eqb-true x b e in (0, (same, subst (λ s. t s ≡ true) same keep, λ m s lt _. absurd (omega arith))), λ h. back keep h.0 h.1)
        | inr skip ↦ Decides-at _ (begins b (filter t xs)) (ap (begins b) (cond-false (t x) (x ∷ filter t xs) (filter t xs) skip))
            (Decides-like _ (λ h. (suc h.0, (h.1.0, h.1.1, later skip h.0 h.1.2))) (λ h. earlier skip h.0 h.1) (begins_kept b xs))
      ]
    where
      back : t x ≡ true → (l : ℕ) → Ahead b (x ∷ xs) l → eqb x b ≡ true
      back keep zero h = eq-eqb x b h.0
      back keep (suc l) h = absurd (both_ways (t x) (h.2 0 x (omega arith) refl) keep)

      later : t x ≡ false → (l : ℕ) → ((m s : ℕ) → m < l → On xs m s → t s ≡ false) → (m s : ℕ) → m < suc l → On (x ∷ xs) m s → t s ≡ false
      later skip l h zero s lt e = subst (λ y. t y ≡ false) e skip
      later skip l h (suc m) s lt e = h m s (omega arith) e

      earlier : t x ≡ false → (l : ℕ) → Ahead b (x ∷ xs) l → (l : ℕ) × Ahead b xs l
      earlier skip zero h = absurd (both_ways (t x) skip (subst (λ y. t y ≡ true) (sym h.0) h.1))
      earlier skip (suc l) h = (l, (h.0, h.1, λ m s lt. h.2 (suc m) s (omega arith)))

  next_more : (a b x : ℕ) (xs : List ℕ) → next a b (filter t (x ∷ xs)) ≡ ((t x && (eqb x a && begins b (filter t xs))) || next a b (filter t xs))
  next_more a b x xs = by (t x)
    where
      by : (k : Bool) → next a b (cond k (x ∷ filter t xs) (filter t xs)) ≡ ((k && (eqb x a && begins b (filter t xs))) || next a b (filter t xs))
      by true = refl
      by false = refl

  pub next_kept : (a b : ℕ) (xs : List ℕ) → Decides (next a b (filter t xs)) ((k : ℕ) × Kept a b xs k)
  next_kept a b =
      decides_along (Kept a b) (λ x xs. t x && (eqb x a && begins b (filter t xs))) (λ xs. next a b (filter t xs))
      here (λ _ h. h.1) (λ _ _ _ h. h) (λ _ _ _ h. h) refl (next_more a b)
    where
      here : (x : ℕ) (xs : List ℕ) → Decides (t x && (eqb x a && begins b (filter t xs))) (Kept a b (x ∷ xs) 0)
      here x xs =
          Decides-like (t x && (eqb x a && begins b (filter t xs)))
          (λ h. (subst (λ s. t s ≡ true) h.1.0 h.0, h.1.0, h.1.1))
          (λ h. (subst (λ s. t s ≡ true) (sym h.1) h.0, (h.1, h.2)))
          (Decides-and (t x) (eqb x a && begins b (filter t xs)) (λ e. e, λ e. e) (Decides-and (eqb x a) (begins b (filter t xs)) (Decides-eqb x a) (begins_kept b xs)))
