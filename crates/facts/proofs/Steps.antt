-- Lists of steps by their members, and the position of the first that passes a test
use Rattle.std.proofs.Common.{◌≡◌, ℕ, suc, ◌<◌, ◌≤◌, Bool, true, false, cond, ◌||◌, List, [], ◌∷◌, map, length, get_or, Decides, filter, sym, refl, ap, ◌∙◌, subst, ap₂, arith}
use Rattle.std.specs.List.{AllByRecursion as All}
use Rattle.std.proofs.lemmas.List.FromFn.{get_or-range_with_len}
use Rattle.std.proofs.ByRecursion.{All-get_or, All-from_get_or, Decides-by_and}
use Rattle.std.proofs.lemmas.Bool.{both_ways}
use Rattle.flow.specs.Flow.{some}
use Rattle.flow.proofs.Bits.{alike}
use Rattle.net.specs.Net.{steps, those, every, same, position}

pub same_decides : (x y : Bool) → Decides (same x y) (x ≡ y)
same_decides true y = (sym, sym)
same_decides false true = (λ e. e, λ e. e)
same_decides false false = (λ e. refl, λ e. refl)

-- ---- what holds of each step

step_at : (s : ℕ) → s < 32 → get_or steps s 0 ≡ s
step_at s l = get_or-range_with_len 0 32 s 0 l ∙ omega arith

pub all_steps : (P : ℕ → Type 0) → ((s : ℕ) → s < 32 → P s) → All P steps
all_steps P f = All-from_get_or P steps 0 (λ i l. subst P (sym (step_at i l)) (f i l))

pub at_step : (P : ℕ → Type 0) → All P steps → (s : ℕ) → s < 32 → P s
at_step P a s l = subst P (step_at s l) (All-get_or P steps s 0 l a)

pub every_decides : (t : ℕ → Bool) (P : ℕ → Type 0) → ((s : ℕ) → Decides (t s) (P s)) → Decides (every t steps) ((s : ℕ) → s < 32 → P s)
every_decides t P d =
    let e = Decides-by_and t P (every t) d refl (λ _ _. refl) steps in
    (λ h. at_step P (e.0 h), λ f. e.1 (all_steps P f))

pub every_step : (t : ℕ → Bool) → every t steps ≡ true → (s : ℕ) → s < 32 → t s ≡ true
every_step t e = (every_decides t (λ s. t s ≡ true) (λ s. (λ h. h, λ h. h))).0 e

-- ---- what holds of the steps that pass a test

kept_all : (P : ℕ → Type 0) (t : ℕ → Bool) (xs : List ℕ) → All (λ x. t x ≡ true → P x) xs → All P (filter t xs)
kept_all P t [] a = tt
kept_all P t (x ∷ xs) a = elim (t x) as (λ b. (b ≡ true → P x) → All P (cond b (x ∷ filter t xs) (filter t xs))) [ true ↦ λ h. (h refl, kept_all P t xs a.1) | false ↦ λ h. kept_all P t xs a.1 ] a.0

all_kept : (P : ℕ → Type 0) (t : ℕ → Bool) (xs : List ℕ) → All P (filter t xs) → All (λ x. t x ≡ true → P x) xs
all_kept P t [] a = tt
all_kept P t (x ∷ xs) a =
    elim (t x) as (λ b. All P (cond b (x ∷ filter t xs) (filter t xs)) → (b ≡ true → P x) × All (λ x. t x ≡ true → P x) xs)
    [ true ↦ λ k. (λ _. k.0, all_kept P t xs k.1) | false ↦ λ k. (λ h. absurd (both_ways false refl h), all_kept P t xs k) ] a

pub those_all : (P : ℕ → Type 0) (t : ℕ → Bool) → ((s : ℕ) → s < 32 → t s ≡ true → P s) → All P (those t)
those_all P t f = kept_all P t steps (all_steps (λ s. t s ≡ true → P s) f)

pub those_at : (P : ℕ → Type 0) (t : ℕ → Bool) → All P (those t) → (s : ℕ) → s < 32 → t s ≡ true → P s
those_at P t a = at_step (λ s. t s ≡ true → P s) (all_kept P t steps a)

kept_same : (t u : ℕ → Bool) (xs : List ℕ) → All (λ x. t x ≡ u x) xs → filter t xs ≡ filter u xs
kept_same t u [] a = refl
kept_same t u (x ∷ xs) a = ap₂ (λ b v. cond b (x ∷ v) v) a.0 (kept_same t u xs a.1)

pub those_same : (t u : ℕ → Bool) → ((s : ℕ) → s < 32 → t s ≡ u s) → those t ≡ those u
those_same t u f = kept_same t u steps (all_steps (λ s. t s ≡ u s) f)

pub those_tell : (t u : ℕ → Bool) → those t ≡ those u → (s : ℕ) → s < 32 → t s ≡ u s
those_tell t u e s l = alike (t s) (u s) (into t u e) (into u t (sym e))
  where
    into : (t u : ℕ → Bool) → those t ≡ those u → t s ≡ true → u s ≡ true
    into t u e = those_at (λ x. u x ≡ true) t (subst (All (λ x. u x ≡ true)) (sym e) (those_all (λ x. u x ≡ true) u (λ _ _ h. h))) s l

-- ---- lists made from others

module _ {X : Type 0} where
  pub map_same : (f g : ℕ → X) (xs : List ℕ) → All (λ x. f x ≡ g x) xs → map f xs ≡ map g xs
  map_same f g [] a = refl
  map_same f g (x ∷ xs) a = ap₂ (λ y ys. y ∷ ys) a.0 (map_same f g xs a.1)

  pub map_tell : (f g : ℕ → X) (xs : List ℕ) → map f xs ≡ map g xs → All (λ x. f x ≡ g x) xs
  map_tell f g [] e = tt
  map_tell f g (x ∷ xs) e = let h : map f xs ≡ map g xs = cc in (cc, map_tell f g xs h)

  -- a function that tells the elements apart tells the lists apart
  pub map_one : (P : ℕ → Type 0) (f : ℕ → X) → ((x y : ℕ) → P x → P y → f x ≡ f y → x ≡ y) → (xs ys : List ℕ) → All P xs → All P ys → map f xs ≡ map f ys → xs ≡ ys
  map_one P f one [] [] a b e = refl
  map_one P f one [] (y ∷ ys) a b e = cc
  map_one P f one (x ∷ xs) [] a b e = cc
  map_one P f one (x ∷ xs) (y ∷ ys) a b e =
      let h : f x ≡ f y = cc in
      let k : map f xs ≡ map f ys = cc in
      ap₂ (λ z zs. z ∷ zs) (one x y a.0 b.0 h) (map_one P f one xs ys a.1 b.1 k)

  pub map_firsts : (f : ℕ → X) (xs : List ℕ) → map (λ (q : ℕ × X). q.0) (map (λ x. (x, f x)) xs) ≡ xs
  map_firsts f [] = refl
  map_firsts f (x ∷ xs) = ap (λ v. x ∷ v) (map_firsts f xs)

-- ---- positions

pub position_below : (t : ℕ → Bool) (xs : List ℕ) → position t xs ≤ length xs
position_below t [] = omega arith
position_below t (x ∷ xs) =
    let r = position_below t xs in
    elim (t x) as (λ b. cond b 0 (suc (position t xs)) ≤ suc (length xs)) [ true ↦ omega arith | false ↦ omega arith ]

pub position_passes : (t : ℕ → Bool) (xs : List ℕ) → some t xs ≡ true → t (get_or xs (position t xs) 0) ≡ true
position_passes t [] h = absurd (both_ways false refl h)
position_passes t (x ∷ xs) h =
    elim (t x) as (λ b. t x ≡ b → (b || some t xs) ≡ true → t (get_or (x ∷ xs) (cond b 0 (suc (position t xs))) 0) ≡ true)
    [ true ↦ λ e _. e | false ↦ λ _ k. position_passes t xs k ] refl h
