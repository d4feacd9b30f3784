-- The facts that differ by the rows are those that differ between the jobs
use Rattle.std.proofs.Common.{◌≡◌, ℕ, ◌<◌, Bool, true, false, not, ◌&&◌, ◌↔◌, Decides, true≢false, sym, refl}
use mathlib.Core.Logic.Iff
use Rattle.std.proofs.lemmas.Bool.Decides.{Decides-and}
use Rattle.flow.specs.Facts.{SameLoops, SameEnds, Agree}
use Rattle.flow.specs.Flow.{Jobs, looping, only_before, only_after, first, last, feeds, feeds_of, unrelated, unrelated_of}
use Rattle.flow.specs.Rows.{Shows, only_before_by, only_after_by}
use Rattle.flow.specs.declared.relations.Relations.{Relations}
use Rattle.facts.specs.Compared.{DiffersBy, SameSteps, SamePairs, SameLooping, SameIfAkin, SameWhereAkin, feeds_by, unrelated_by}
use Rattle.facts.specs.Differences.{Differs, none_of}
use Rattle.facts.specs.declared.shape.Differences.{Differences}

-- what the rows say of two steps is what the jobs say
module _ (js : Jobs) (r : Relations) (shows : Shows js r) where
  befores : only_before_by r ≡ only_before js
  befores = λ i t s. (shows.followed_is s t i && not (shows.looping_is s i)) && not (shows.follows_is t s i && not (shows.looping_is s i))

  afters : only_after_by r ≡ only_after js
  afters = λ i t s. (shows.follows_is t s i && not (shows.looping_is s i)) && not (shows.followed_is s t i && not (shows.looping_is s i))

  fed : feeds_by r ≡ feeds js
  fed = λ i. feeds_of (λ a b. shows.precedes_is a b i) (λ a b. shows.returns_is a b i)

  apart : unrelated_by r ≡ unrelated js
  apart = λ i. unrelated_of (λ a b. shows.precedes_is a b i) (λ a b. shows.returns_is a b i)

-- the bounds of two steps in either order
as_pairs : (P : ℕ → ℕ → Type 0) → ((a : ℕ) → a < 32 → (b : ℕ) → b < 32 → P a b) ↔ ((a b : ℕ) → a < 32 → b < 32 → P a b)
as_pairs P = (λ h a b l k. h a l b k, λ h a l b k. h a b l k)

-- the facts by their tests, as the records of them
module _ (js ks : Jobs) where
  as_loops : SameLooping (looping js) (looping ks) (only_before js) (only_before ks) (only_after js) (only_after ks) ↔ SameLoops js ks
  as_loops = (
    λ h. record { steps = h.0; befores = λ t s l k e. (h.1 t l e).0 s k; afters = λ t s l k e. (h.1 t l e).1 s k },
    λ h. (h.steps, λ t l e. (λ s k. h.befores t s l k e, λ s k. h.afters t s l k e)),
  )

  as_ends : (SameSteps (first js) (first ks) × SameSteps (last js) (last ks)) ↔ SameEnds js ks
  as_ends = (λ h. record { firsts = h.0; lasts = h.1 }, λ h. (h.firsts, h.lasts))

  module _ (x y : Relations) (sx : Shows js x) (sy : Shows ks y) (r : Differences) (by : DiffersBy (record { one = x; other = y }) r) where
    pub differs : Differs js ks r
    differs = record {
      seen_is = coe 0 1 (i. (r.seen ≡ false) ↔ SameSteps (λ s. sx.seen_is s i) (λ s. sy.seen_is s i)) by.seen_is;
      loops_is = Iff.trans
          (coe 0 1 (i. (r.loops ≡ false) ↔ SameLooping (λ s. sx.looping_is s i) (λ s. sy.looping_is s i) (befores js x sx i) (befores ks y sy i) (afters js x sx i) (afters ks y sy i)) by.loops_is)
          as_loops;
      ends_is = Iff.trans
          (coe 0 1 (i. (r.ends ≡ false) ↔ (SameSteps (λ s. sx.first_is s i) (λ s. sy.first_is s i) × SameSteps (λ s. sx.last_is s i) (λ s. sy.last_is s i))) by.ends_is)
          as_ends;
      feeds_is = Iff.trans (coe 0 1 (i. (r.feeds ≡ false) ↔ SamePairs (fed js x sx i) (fed ks y sy i)) by.feeds_is) (as_pairs (λ a b. feeds js a b ≡ feeds ks a b));
      kin_is = Iff.trans
          (coe 0 1 (i. (r.kin ≡ false) ↔ SameWhereAkin (fed js x sx i) (fed ks y sy i) (apart js x sx i) (apart ks y sy i)) by.kin_is)
          (as_pairs (SameIfAkin (feeds js) (feeds ks) (unrelated js) (unrelated ks)));
    }

  -- no fact differs exactly if the jobs agree
  pub agrees : (r : Differences) → Differs js ks r → (none_of r ≡ true) ↔ Agree js ks
  agrees r d =
      let both = Decides-and (not r.seen) (not r.loops) (lacks r.seen d.seen_is) (lacks r.loops d.loops_is) in
      let three = Decides-and _ (not r.ends) both (lacks r.ends d.ends_is) in
      let four = Decides-and _ (not r.feeds) three (lacks r.feeds d.feeds_is) in
      let all = Decides-and _ (not r.kin) four (lacks r.kin d.kin_is) in (
        λ e. let ((((seen, loops), ends), feeds), kin) = all.0 e in record { same_seen = seen; same_loops = loops; same_ends = ends; same_feeds = feeds; same_kin = kin },
        λ h. all.1 ((((h.same_seen, h.same_loops), h.same_ends), h.same_feeds), h.same_kin),
      )
    where
      lacks : {P : Type 0} (b : Bool) → (b ≡ false) ↔ P → Decides (not b) P
      lacks true h = (λ e. absurd (true≢false (sym e)), λ p. absurd (true≢false (h.1 p)))
      lacks false h = (λ _. h.0 refl, λ _. refl)
