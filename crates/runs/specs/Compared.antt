-- What a comparison of two nets tells
use Rattle.std.specs.Prelude.{◌≡◌, ℕ, Bool, true, ◌↔◌, List}
use Rattle.std.specs.declared.cmp.Ordering.{Ordering}
use Rattle.flow.specs.Flow.{Jobs}
use Rattle.flow.specs.Facts.{Agree}
use Rattle.net.specs.Net.{Draws}
use Rattle.runs.specs.Run.{Drawing}

-- of nets that are drawn at the ends of runs: each is the net of the jobs that its run accepted, and they are equal exactly when those jobs agree
abbrev pub OfRuns : {S : Type 0} → (S → S → Ordering) → List S → List ℕ → List ℕ → Bool → Type 0
OfRuns order roster a b r =
    (js ks : Jobs) → Drawing order roster js a → Drawing order roster ks b → Draws js a × Draws ks b × ((r ≡ true) ↔ Agree js ks)
