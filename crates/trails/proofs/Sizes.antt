-- The sizes of jobs. Assumes nothing.
use Rattle.std.proofs.Common.{ℕ, ◌≤◌, List, [], ◌∷◌, ◌++◌, length, arith}
use Rattle.trails.specs.Jobs.{SizedTo}

-- one job more
pub sized_push : {S : Type 0} (most : ℕ) (js : List (List S)) (j : List S) → SizedTo most js → 1 ≤ length j → length j ≤ most → SizedTo most (js ++ j ∷ [])
sized_push most [] j s a b = (a, b, tt)
sized_push most (i ∷ js) j s a b = (s.0, s.1, sized_push most js j s.2 a b)

-- more events allowed
pub sized_more : {S : Type 0} (most more : ℕ) (js : List (List S)) → most ≤ more → SizedTo most js → SizedTo more js
sized_more most more [] h s = tt
sized_more most more (j ∷ js) h s = (s.0, omega (arith, s.1), sized_more most more js h s.2)
