-- What an eraser leaves of the jobs below it. Assumes nothing.
use Rattle.std.specs.Prelude.{◌≡◌, ℕ, ◌≤◌, Bool, true, false, cond, List, [], ◌∷◌, map, filter, length, take, nat_lt, Some, None, Option, Ok, Err, Result}
use Rattle.std.specs.Ordering.{is_ne}
use Rattle.std.specs.declared.cmp.Ordering.{Ordering}
use Rattle.std.proofs.Common.{arith}
use Rattle.std.proofs.lemmas.List.Sums.{count_by-le-length, length-filter}
use Rattle.std.proofs.lemmas.List.{length-map}
use Rattle.std.proofs.lemmas.Bool.Decides.{nat_tests}
use Rattle.trails.specs.declared.endings.TrailStop.{TrailStop}
use Rattle.trails.specs.Jobs.{Ending, Sized, Lawful, Next}

-- a job without the step e
abbrev pub without : {S : Type 0} → (S → S → Ordering) → S → List S → List S
without order e = filter (λ x. is_ne (order x e))

-- the jobs that are not empty
abbrev pub filled : {S : Type 0} → List (List S) → List (List S)
filled = filter (λ j. nat_lt 0 (length j))

-- the step e taken out of every job, and emptied jobs dropped
abbrev pub erased : {S : Type 0} → (S → S → Ordering) → S → List (List S) → List (List S)
erased order e js = filled (map (without order e) js)

-- The next job below without the step: as `Next`, but that the job j below stands without e at the start of the work memory, where it may be empty
abbrev pub ErasedNext : {S : Type 0} → (S → S → Ordering) → S → List (List S) → Ending → List (List S) → Ending → List S → List S → Result (Option ℕ) TrailStop → Type 0
ErasedNext {S} order e js x ks y w v (Ok (Some n)) = (1000 ≤ length w) × (n ≤ 1000) × ((j : List S) × (js ≡ j ∷ ks) × (take n v ≡ without order e j)) × (y ≡ x)
ErasedNext order e js x ks y w v (Ok None) = Next js x ks y w v (Ok None)
ErasedNext order e js x ks y w v (Err stop) = Next js x ks y w v (Err stop)

-- lawful jobs stay lawful
module _ {S : Type 0} (order : S → S → Ordering) (e : S) where
  without_length : (xs : List S) → length (without order e xs) ≤ length xs
  without_length xs = omega (arith, length-filter (λ x. is_ne (order x e)) xs, count_by-le-length (λ x. is_ne (order x e)) xs)

  filled_sized : (b : Bool) (j : List S) (js : List (List S)) → nat_lt 0 (length j) ≡ b → length j ≤ 1000 → Sized js → Sized (cond b (j ∷ js) js)
  filled_sized true [] js t h s = grind (arith, nat_tests)
  filled_sized true (x ∷ xs) js t h s = (omega arith, h, s)
  filled_sized false j js t h s = s

  erased_sized : (js : List (List S)) → Sized js → Sized (erased order e js)
  erased_sized [] s = tt
  erased_sized (j ∷ js) s = filled_sized (nat_lt 0 (length (without order e j))) (without order e j) (erased order e js) (λ i. nat_lt 0 (length (without order e j))) (omega (arith, without_length j)) (erased_sized js s.2)

  erased_length : (js : List (List S)) → length (erased order e js) ≤ length js
  erased_length js = omega (arith, length-filter (λ j. nat_lt 0 (length j)) (map (without order e) js), count_by-le-length (λ j. nat_lt 0 (length j)) (map (without order e) js), length-map js (without order e))

  pub erased_lawful : (js : List (List S)) → Lawful js → Lawful (erased order e js)
  erased_lawful js s = (erased_sized js s.0, omega (arith, erased_length js, s.1))
