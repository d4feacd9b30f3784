-- Rows turned about, one point after another
use Rattle.std.proofs.Common.{◌≡◌, ℕ, ◌+◌, Bool, ◌&&◌, ◌||◌, eqb, ltb, MatchBool, arith}
use Rattle.std.proofs.lemmas.Bool.Decides.{nat_tests}
use Rattle.flow.specs.Bits.{bit}
use Rattle.flow.specs.Reading.{Added}
use Rattle.flow.proofs.Marks.{moved, when_added}

ltb_more : (x n : ℕ) → ltb x (n + 1) ≡ (ltb x n || eqb n x)
ltb_more x n = grind (arith, nat_tests)

-- the set of the points below n that pass a test, with n where it passes too
pub those_more : (t : ℕ → Bool) (old n new : ℕ) → ((x : ℕ) → bit old x ≡ (ltb x n && t x)) → (b : Bool) → b ≡ t n → MatchBool b (Added old n new) (new ≡ old) → (x : ℕ) → bit new x ≡ (ltb x (n + 1) && t x)
those_more t old n new was b e added x = rw (when_added b old n new added x, was x, e, moved t n x, ltb_more x n) (grind arith)
