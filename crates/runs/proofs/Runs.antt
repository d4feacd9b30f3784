-- A book holds the jobs that its run accepted, and so a drawn net is the net of those
use Rattle.std.proofs.Common.{◌≡◌, ℕ, suc, ◌+◌, ◌-◌, ◌<◌, ◌≤◌, List, [], ◌∷◌, ◌++◌, map, length, get_or, take, Ok, Err, Decides, Result, sym, refl, ap, ◌∙◌, subst, inl, inr, arith}
use Rattle.std.proofs.lemmas.Slice.Eq.{compares_Decides}
use Rattle.std.proofs.lemmas.Bool.{cases_Bool, cond-true, cond-false}
use Rattle.std.specs.declared.cmp.Ordering.{Ordering}
use Rattle.steps.specs.declared.faults.RosterFault.TheVariants.{Unfit, Unlisted}
use Rattle.steps.specs.Rosters.{numbers}
use Rattle.trails.specs.Jobs.{Ending}
use Rattle.std.specs.Prelude.{None as End, Some as Fault}
use Rattle.book.specs.declared.entries.Entry.{Entry}
use Rattle.book.specs.declared.entries.Entry.TheVariants.{New, Held}
use Rattle.book.specs.declared.faults.Void.TheVariants.{Steps, Memory}
use Rattle.book.specs.declared.faults.EnterFault.{EnterFault}
use Rattle.book.specs.declared.faults.EnterFault.TheVariants as enter
use Rattle.book.specs.declared.faults.FeedFault.{FeedFault}
use Rattle.book.specs.declared.faults.FeedFault.TheVariants as feed
use Rattle.book.specs.Enter.{Entered, HeldAt, NotHeld}
use Rattle.book.specs.Feed.{Closed, Declined, Feeds, Fed}
use Rattle.flow.specs.Flow.{Jobs, some}
use Rattle.flow.proofs.MeansJob.{some_means}
use Rattle.net.specs.Net.{Draws}
use Rattle.runs.specs.Accepted.{equal_jobs, accept, accept_all, accepted_by, after_enter, after_feed}
use Rattle.runs.specs.Run.{View, Run, Drawing, Law, opened, entered, fed, drawn}
use Rattle.facts.proofs.Law.{law}

same_job : (a b : List ℕ) → Decides (equal_jobs a b) (a ≡ b)
same_job = compares_Decides equal_jobs (record { empty = refl; shorter = λ y ys. refl; longer = λ x xs. refl; heads = λ x y xs ys. refl })

-- whether an equal job is among these
pub held_means : (js : Jobs) (job : List ℕ) → Decides (some (equal_jobs job) js) ((i : ℕ) × ((i < length js) × (job ≡ get_or js i [])))
held_means js job = some_means (equal_jobs job) (λ j. job ≡ j) [] (same_job job) js

accept_new : (js : Jobs) (job : List ℕ) → NotHeld js job → accept js job ≡ js ++ job ∷ []
accept_new js job new =
    elim (cases_Bool (some (equal_jobs job) js)) [
      | inl e ↦ let (i, (l, same)) = (held_means js job).0 e in absurd (new i l (sym same))
      | inr e ↦ cond-false _ js (js ++ job ∷ []) e
    ]

accept_held : (js : Jobs) (job : List ℕ) (n : ℕ) → HeldAt js job n → accept js job ≡ js
accept_held js job n h = cond-true _ js (js ++ job ∷ []) ((held_means js job).1 (n, (h.0, sym h.1)))

module _ {S : Type 0} (order : S → S → Ordering) (steps len : ℕ) (roster : List S) where
  -- what an entry leaves is what its answer says was accepted
  after_enter_lem : (r : Result Entry EnterFault) (js js' : Jobs) (job : List S) → Entered order steps len js roster job r js' → js' ≡ after_enter order js roster job r
  after_enter_lem (Ok (New n)) js js' job t = t.4.3 ∙ sym (accept_new js _ t.4.0)
  after_enter_lem (Ok (Held n)) js js' job t = t.4.1 ∙ sym (accept_held js _ n t.4.0)
  after_enter_lem (Err (enter.Void v)) js js' job t = t.1
  after_enter_lem (Err (enter.Roster Unfit)) js js' job t = t.2
  after_enter_lem (Err (enter.Roster (Unlisted p))) js js' job t = t.4
  after_enter_lem (Err enter.Events) js js' job t = t.3
  after_enter_lem (Err enter.Room) js js' job t = t.6

  closed_at : (r : Result ℕ FeedFault) (e : Ending) (k : ℕ) → Closed e k r → accepted_by r ≡ k
  closed_at r End k c = ap accepted_by c
  closed_at r (Fault f) k c = ap accepted_by c

  declined_at : (r : Result ℕ FeedFault) (hs : Jobs) (job : List S) (k : ℕ) → Declined order steps len roster hs job k r → accepted_by r ≡ k
  declined_at (Ok n) hs job k d = absurd d
  declined_at (Err (feed.Void v)) hs job k d = absurd d
  declined_at (Err (feed.Roster f n)) hs job k d = d.0
  declined_at (Err feed.ShortWork) hs job k d = absurd d
  declined_at (Err (feed.Trail f n)) hs job k d = absurd d
  declined_at (Err (feed.Room n)) hs job k d = d.0

  -- the jobs of a feed after k others: those that were accepted, n in all
  abbrev firsts : List (List S) → ℕ → Jobs
  firsts jobs n = map (numbers order roster) (take n jobs)

  after_jobs : (r : Result ℕ FeedFault) (jobs : List (List S)) (e : Ending) (k : ℕ) (hs hs' : Jobs) (left : List (List S))
      → Feeds order steps len roster jobs e k hs r hs' left → (k ≤ accepted_by r) × (hs' ≡ accept_all hs (firsts jobs (accepted_by r - k)))
  after_jobs r [] e k hs hs' left t = let c = closed_at r e k t.0 in let z : accepted_by r - k ≡ 0 = omega arith in (omega arith, t.1 ∙ ap (λ n. accept_all hs (firsts [] n)) (sym z))
  after_jobs r (j ∷ js) e k hs hs' left (inl (a, more, one, rest)) =
      let (l, same) = after_jobs r js e (k + 1) more hs' left rest in
      let m : suc (accepted_by r - (k + 1)) ≡ accepted_by r - k = omega arith in (
        omega arith,
        same ∙ ap (λ x. accept_all x (firsts js (accepted_by r - (k + 1)))) (after_enter_lem (Ok a) hs more j one) ∙ ap (λ n. accept_all hs (firsts (j ∷ js) n)) m,
      )
  after_jobs r (j ∷ js) e k hs hs' left (inr t) =
      let c = declined_at r hs j k t.0 in
      let z : accepted_by r - k ≡ 0 = omega arith in
      (omega arith, t.1 ∙ ap (λ n. accept_all hs (firsts (j ∷ js) n)) (sym z))

  from_none : (r : Result ℕ FeedFault) (jobs : List (List S)) (e : Ending) (hs hs' : Jobs) (left : List (List S))
      → Feeds order steps len roster jobs e 0 hs r hs' left → hs' ≡ after_feed order hs roster jobs r
  from_none r jobs e hs hs' left t = let z : accepted_by r - 0 ≡ accepted_by r = omega arith in (after_jobs r jobs e 0 hs hs' left t).1 ∙ ap (λ n. accept_all hs (firsts jobs n)) z

  -- what a feed leaves is what its answer says was accepted
  after_feed_lem : (r : Result ℕ FeedFault) (jobs : List (List S)) (e : Ending) (w : ℕ) (hs hs' : Jobs) (left : List (List S))
      → Fed order steps len roster jobs e w hs r hs' left → hs' ≡ after_feed order hs roster jobs r
  after_feed_lem (Ok n) jobs e w hs hs' left t = from_none (Ok n) jobs e hs hs' left t.3
  after_feed_lem (Err (feed.Void Steps)) jobs e w hs hs' left t = t.1
  after_feed_lem (Err (feed.Void Memory)) jobs e w hs hs' left t = t.1
  after_feed_lem (Err (feed.Roster Unfit n)) jobs e w hs hs' left t = t.3 ∙ ap (λ m. accept_all hs (firsts jobs m)) (sym t.2)
  after_feed_lem (Err (feed.Roster (Unlisted p) n)) jobs e w hs hs' left t = from_none (Err (feed.Roster (Unlisted p) n)) jobs e hs hs' left t.3
  after_feed_lem (Err feed.ShortWork) jobs e w hs hs' left t = t.3
  after_feed_lem (Err (feed.Trail f n)) jobs e w hs hs' left t = from_none (Err (feed.Trail f n)) jobs e hs hs' left t.3
  after_feed_lem (Err (feed.Room n)) jobs e w hs hs' left t = from_none (Err (feed.Room n)) jobs e hs hs' left t.3

module _ {S : Type 0} (order : S → S → Ordering) (roster : List S) where
  pub run_holds : {v : View} {js : Jobs} → Run order roster v js → v.held ≡ js
  run_holds (opened o) = o.empty
  run_holds (entered {v} {v'} {R} {job} {r} run serves call) =
      after_enter_lem order _ _ R r v.held v'.held job call.entered ∙ ap (λ hs. after_enter order hs R job r) (run_holds run)
  run_holds (fed {v} {v'} {R} {jobs} {left} {ending} {w} {r} run serves call) =
      after_feed_lem order _ _ R r jobs ending w v.held v'.held left call.fed ∙ ap (λ hs. after_feed order hs R jobs r) (run_holds run)
  run_holds (drawn old new r run call) = run_holds run

  pub drawing_draws : (js : Jobs) (ws : List ℕ) → Drawing order roster js ws → Draws js ws
  drawing_draws js ws d =
      let (o, (net, draws, long, front, rest, whole)) = d.draw in
      subst (λ x. Draws x ws) (run_holds d.run) (subst (Draws d.book.held) (sym (d.is ∙ front)) draws)

  pub main_law : Law order roster
  main_law = (drawing_draws, λ js ks ws vs d e. law js ks ws vs (drawing_draws js ws d) (drawing_draws ks vs e))
