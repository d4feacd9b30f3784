-- What one event more at the end of a job changes
use Rattle.std.proofs.Common.{◌≡◌, ℕ, Bool, true, false, ◌&&◌, ◌||◌, eqb, List, [], ◌∷◌, ◌++◌, sym, refl, ap, ◌∙◌, arith}
use mathlib.Core.Bool.{or-false, or_assoc}
use Rattle.flow.specs.Flow.{some, begins, ends, next, three}
use Rattle.flow.specs.Reading.{ends_earlier}

pub some_push : {X : Type 0} (t : X → Bool) (xs : List X) (x : X) → some t (xs ++ x ∷ []) ≡ (some t xs || t x)
some_push t [] x = or-false (t x)
some_push t (y ∷ ys) x = ap (λ b. t y || b) (some_push t ys x) ∙ sym (or_assoc (t y) (some t ys) (t x))

abbrev pub empty : List ℕ → Bool
empty [] = true
empty (x ∷ xs) = false

pub begins_push : (s : ℕ) (xs : List ℕ) (x : ℕ) → begins s (xs ++ x ∷ []) ≡ (begins s xs || (empty xs && eqb x s))
begins_push s [] x = refl
begins_push s (y ∷ ys) x = sym (or-false (eqb y s))

pub ends_push : (s : ℕ) (xs : List ℕ) (x : ℕ) → ends s (xs ++ x ∷ []) ≡ eqb x s
ends_push s [] x = refl
ends_push s (y ∷ []) x = refl
ends_push s (y ∷ (z ∷ zs)) x = ends_push s (z ∷ zs) x

pub ends_earlier_push : (s : ℕ) (xs : List ℕ) (x : ℕ) → ends_earlier s (xs ++ x ∷ []) ≡ ends s xs
ends_earlier_push s [] x = refl
ends_earlier_push s (y ∷ []) x = refl
ends_earlier_push s (y ∷ (z ∷ [])) x = refl
ends_earlier_push s (y ∷ (z ∷ (w ∷ ws))) x = ends_earlier_push s (z ∷ (w ∷ ws)) x

pub next_push : (a b : ℕ) (xs : List ℕ) (x : ℕ) → next a b (xs ++ x ∷ []) ≡ (next a b xs || (ends a xs && eqb x b))
next_push a b [] x = grind arith
next_push a b (y ∷ []) x = grind arith
next_push a b (y ∷ (z ∷ zs)) x = ap (λ t. (eqb y a && eqb z b) || t) (next_push a b (z ∷ zs) x) ∙ sym (or_assoc _ (next a b (z ∷ zs)) _)

pub three_push : (a b c : ℕ) (xs : List ℕ) (x : ℕ) → three a b c (xs ++ x ∷ []) ≡ (three a b c xs || ((ends_earlier a xs && ends b xs) && eqb x c))
three_push a b c [] x = grind arith
three_push a b c (y ∷ []) x = grind arith
three_push a b c (y ∷ (z ∷ [])) x = grind arith
three_push a b c (y ∷ (z ∷ (w ∷ ws))) x = ap (λ t. (eqb y a && (eqb z b && eqb w c)) || t) (three_push a b c (z ∷ (w ∷ ws)) x) ∙ sym (or_assoc _ (three a b c (z ∷ (w ∷ ws))) _)
