-- The steps that stand in reduced jobs
use Rattle.std.proofs.Common.{◌≡◌, ℕ, Bool, true, false, not, ◌&&◌, ◌||◌, eqb, List, [], ◌∷◌, map, filter, sym, refl, ap, ◌∙◌, ap₂, ⊎_elim}
use Rattle.std.proofs.lemmas.Bool.{cases_Bool, cond-true, cond-false, eqb-true}
use Rattle.flow.specs.Flow.{Jobs, has, seen, looping, stands}
use Rattle.flow.specs.Rows.{Shows, stands_by}
use Rattle.flow.specs.declared.relations.Relations.{Relations}

-- taking elements out of a job takes out no other
has_kept : (t : ℕ → Bool) (s : ℕ) (xs : List ℕ) → has s (filter t xs) ≡ (has s xs && t s)
has_kept t s [] = refl
has_kept t s (x ∷ xs) =
    ⊎_elim
    (λ e. ap (has s) (cond-true (t x) (x ∷ filter t xs) (filter t xs) e) ∙ (ap (λ b. eqb x s || b) (has_kept t s xs) ∙ taken (eqb x s) (has s xs) (λ q. sym e ∙ ap t (eqb-true x s q))))
    (λ e. ap (has s) (cond-false (t x) (x ∷ filter t xs) (filter t xs) e) ∙ (has_kept t s xs ∙ left (eqb x s) (has s xs) (λ q. sym (ap t (eqb-true x s q)) ∙ e)))
    (cases_Bool (t x))
  where
    taken : (a b : Bool) → (a ≡ true → true ≡ t s) → (a || (b && t s)) ≡ ((a || b) && t s)
    taken true b f = f refl
    taken false b f = refl

    left : (a b : Bool) → (a ≡ true → t s ≡ false) → (b && t s) ≡ ((a || b) && t s)
    left true true f = refl
    left true false f = sym (f refl)
    left false b f = refl

seen_kept : (t : ℕ → Bool) (s : ℕ) (js : Jobs) → seen (map (filter t) js) s ≡ (seen js s && t s)
seen_kept t s [] = refl
seen_kept t s (j ∷ js) = ap₂ ◌||◌ (has_kept t s j) (seen_kept t s js) ∙ joined (has s j) (seen js s) (t s)
  where
    joined : (a b c : Bool) → ((a && c) || (b && c)) ≡ ((a || b) && c)
    joined true b true = refl
    joined true true false = refl
    joined true false false = refl
    joined false b c = refl

-- a step stands in a reduced job if it is seen and not looping
pub stands_is : (js : Jobs) (s : ℕ) → stands js s ≡ (seen js s && not (looping js s))
stands_is js s = seen_kept (λ x. not (looping js x)) s js

-- and so by the rows of the jobs
pub standing : (js : Jobs) (r : Relations) → Shows js r → (s : ℕ) → stands_by r s ≡ stands js s
standing js r shows s = ap₂ (λ a b. a && not b) (shows.seen_is s) (shows.looping_is s) ∙ sym (stands_is js s)
