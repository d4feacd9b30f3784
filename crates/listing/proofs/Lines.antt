-- A line tells its fields. Assumes nothing.
use Rattle.std.proofs.Common.{◌≡◌, ℕ, ◌⊎◌, List, [], ◌∷◌, ◌++◌, sym, refl, ap, ◌∙◌, subst, ap₂, inl, inr, append_assoc, arith}
use Rattle.std.specs.List.{AllByRecursion as All}
use Rattle.listing.specs.Page.{line}

-- a front without marks goes up to the first mark
module _ {X : Type 0} (Mark : X → Type 0) where
  abbrev pub Unmarked : List X → Type 0
  Unmarked = All (λ x. Mark x → ⊥)

  abbrev pub Marked : List X → Type 0
  Marked [] = ⊥
  Marked (x ∷ xs) = Mark x

  pub front_tells : (xs ys us vs : List X) → Unmarked xs → Unmarked ys → Marked us → Marked vs → xs ++ us ≡ ys ++ vs → (xs ≡ ys) × (us ≡ vs)
  front_tells [] [] us vs a b h k e = (refl, e)
  front_tells [] (y ∷ ys) us vs a b h k e = absurd (b.0 (subst Marked e h))
  front_tells (x ∷ xs) [] us vs a b h k e = absurd (a.0 (subst Marked (sym e) k))
  front_tells (x ∷ xs) (y ∷ ys) us vs a b h k e =
      let d : x ≡ y = cc in
      let t : xs ++ us ≡ ys ++ vs = cc in
      let (p, q) = front_tells xs ys us vs a.1 b.1 h k t in
      (ap₂ (λ z zs. z ∷ zs) d p, q)

-- a field ends at a space or a line end, and has neither
abbrev pub Ending : ℕ → Type 0
Ending b = (b ≡ 32) ⊎ (b ≡ 10)

abbrev pub Plain : List ℕ → Type 0
Plain = Unmarked Ending

-- what follows the first field of a line
abbrev rest : List (List ℕ) → List ℕ → List ℕ
rest [] xs = 10 ∷ xs
rest (f ∷ fs) xs = 32 ∷ line f fs ++ xs

rest_marked : (fs : List (List ℕ)) (xs : List ℕ) → Marked Ending (rest fs xs)
rest_marked [] xs = inr refl
rest_marked (f ∷ fs) xs = inl refl

line_parts : (f : List ℕ) (fs : List (List ℕ)) (xs : List ℕ) → line f fs ++ xs ≡ f ++ rest fs xs
line_parts f [] xs = append_assoc f (10 ∷ []) xs
line_parts f (g ∷ gs) xs = append_assoc f (32 ∷ line g gs) xs

rest_tells : (fs gs : List (List ℕ)) (xs ys : List ℕ) → All Plain fs → All Plain gs → rest fs xs ≡ rest gs ys → (fs ≡ gs) × (xs ≡ ys)
rest_tells [] [] xs ys a b e = let t : xs ≡ ys = cc in (refl, t)
rest_tells [] (g ∷ gs) xs ys a b e = let z : ◌≡◌ {A = ℕ} 10 32 = cc in absurd (omega arith)
rest_tells (f ∷ fs) [] xs ys a b e = let z : ◌≡◌ {A = ℕ} 32 10 = cc in absurd (omega arith)
rest_tells (f ∷ fs) (g ∷ gs) xs ys a b e =
    let t : line f fs ++ xs ≡ line g gs ++ ys = cc in
    let (p, q) = front_tells Ending f g (rest fs xs) (rest gs ys) a.0 b.0 (rest_marked fs xs) (rest_marked gs ys) (sym (line_parts f fs xs) ∙ (t ∙ line_parts g gs ys)) in
    let (r, s) = rest_tells fs gs xs ys a.1 b.1 q in
    (ap₂ (λ z zs. z ∷ zs) p r, s)

-- a line and what follows it tell its fields and what follows it
pub line_tells : (f g : List ℕ) (fs gs : List (List ℕ)) (xs ys : List ℕ) → All Plain (f ∷ fs) → All Plain (g ∷ gs)
    → line f fs ++ xs ≡ line g gs ++ ys → (f ≡ g) × (fs ≡ gs) × (xs ≡ ys)
line_tells f g fs gs xs ys a b e =
    let (p, s) = rest_tells (f ∷ fs) (g ∷ gs) xs ys a b (ap (λ l. 32 ∷ l) e) in
    let q : f ≡ g = cc in
    let r : fs ≡ gs = cc in
    (q, r, s)
