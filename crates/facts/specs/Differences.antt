-- Which of the five facts differ
use Rattle.std.specs.Prelude.{◌≡◌, ℕ, Bool, true, false, not, ◌&&◌, ◌↔◌, List, Result}
use Rattle.flow.specs.Flow.{Jobs}
use Rattle.flow.specs.Facts.{SameSeen, SameLoops, SameEnds, SameFeeds, SameKin}
use Rattle.net.specs.Net.{Draws}
use Rattle.net.specs.Draw.{Drew}
use Rattle.net.specs.declared.faults.DrawFault.{DrawFault}
use Rattle.facts.specs.declared.shape.Differences.{Differences}

-- no fact differs
abbrev pub none_of : Differences → Bool
none_of r = (((not r.seen && not r.loops) && not r.ends) && not r.feeds) && not r.kin

-- each fact differs unless the jobs have it in common
pub record Differs (js ks : Jobs) (r : Differences) : Type 0 where
  pub seen_is : (r.seen ≡ false) ↔ SameSeen js ks
  pub loops_is : (r.loops ≡ false) ↔ SameLoops js ks
  pub ends_is : (r.ends ≡ false) ↔ SameEnds js ks
  pub feeds_is : (r.feeds ≡ false) ↔ SameFeeds js ks
  pub kin_is : (r.kin ≡ false) ↔ SameKin js ks

-- no fact differs exactly if the nets of the jobs are equal, where both have one
abbrev pub SoNets : Jobs → Jobs → Differences → Type 0
SoNets js ks r = (ws vs : List ℕ) → Draws js ws → Draws ks vs → (none_of r ≡ true) ↔ (ws ≡ vs)

-- where no fact differs, what a draw answers and writes for the one it answers and writes for the other, refusals too
abbrev pub SoDraws : Jobs → Jobs → Differences → Type 0
SoDraws js ks r = none_of r ≡ true → (steps len : ℕ) (old new : List ℕ) (s : Result ℕ DrawFault) → Drew steps len js old new s → Drew steps len ks old new s
