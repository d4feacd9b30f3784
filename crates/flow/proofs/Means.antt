-- Each relation of jobs is its sentence by positions in the jobs
use Rattle.std.proofs.Common.{◌≡◌, ℕ, suc, ◌+◌, ◌-◌, ◌<◌, Bool, false, not, ◌&&◌, [], length, get_or, Decides, filter, refl, ap, ◌∙◌, subst, inl, inr, arith}
use Rattle.std.proofs.lemmas.Bool.{both_ways, cases_Bool, not_from_true, not_from_false}
use Rattle.std.proofs.lemmas.Bool.Decides.{Decides-at, Decides-like, Decides-and, Decides-or, Decides-not, Decides-eqb}
use Rattle.flow.specs.Flow.{Jobs, some, has, begins, ends, next, three, seen, follows, looping, reduced, precedes, turn, leads, beside, feeds}
use Rattle.flow.specs.Means.{At, Somewhere, Follows, InTurn, Begins, Ends, Turn, Leads, FollowsIn, Means}
use Rattle.flow.proofs.MeansJob.{On, on_from, on_gives, some_means, has_means, begins_means, ends_means, next_means, three_means}
use Rattle.flow.proofs.MeansHeld.{Kept, on_drop, some_map, next_kept}

module _ {P Q : Type 0} (x y : Bool) (d : Decides x P) (e : Decides y Q) where
  decides_but : Decides (x && not y) (P × (Q → ⊥))
  decides_but = Decides-and x (not y) d (Decides-not y e)

  decides_neither : Decides (not x && not y) ((P → ⊥) × (Q → ⊥))
  decides_neither = Decides-and (not x) (not y) (Decides-not x d) (Decides-not y e)

-- an event of the job i, and of the jobs at i
at : (js : Jobs) (i k n s : ℕ) → n ≡ k → i < length js → On (get_or js i []) k s → At js i n s
at js i k n s e lt h = let r = on_gives (get_or js i []) k s h in record { job = lt; event = omega (arith, r.0); step = ap (λ j. get_or (get_or js i []) j 0) e ∙ r.1 }

on : (js : Jobs) (i k n s : ℕ) → n ≡ k → At js i n s → On (get_or js i []) k s
on js i k n s e h = subst (λ j. On (get_or js i []) j s) e (on_from (get_or js i []) n s h.event h.step)

-- the relations of one test on a job
seen_means : (js : Jobs) (s : ℕ) → Decides (seen js s) (Somewhere js s)
seen_means js s =
    Decides-like (seen js s) (λ h. (h.0, h.1.1.0, at js _ _ _ s refl h.1.0 h.1.1.1)) (λ h. (h.0, (h.2.job, (h.1, on js _ _ _ s refl h.2))))
    (some_means (has s) (λ xs. (k : ℕ) × On xs k s) [] (has_means s) js)

begins_some : (js : Jobs) (s : ℕ) → Decides (some (begins s) js) (Begins js s)
begins_some js s =
    Decides-like (some (begins s) js) (λ h. (h.0, at js _ _ _ s refl h.1.0 h.1.1)) (λ h. (h.0, (h.1.job, on js _ _ _ s refl h.1)))
    (some_means (begins s) (λ xs. On xs 0 s) [] (begins_means s) js)

ends_some : (js : Jobs) (s : ℕ) → Decides (some (ends s) js) (Ends js s)
ends_some js s =
    Decides-like (some (ends s) js)
    (λ h. (h.0, h.1.1.0, at js _ _ _ s refl h.1.0 h.1.1.1, omega (arith, h.1.1.2)))
    (λ h. (h.0, (h.2.job, (h.1, on js _ _ _ s refl h.2, omega (arith, h.3)))))
    (some_means (ends s) (λ xs. (k : ℕ) × On xs k s × (length xs ≡ suc k)) [] (ends_means s) js)

follows_means : (js : Jobs) (a b : ℕ) → Decides (follows js a b) (Follows js a b)
follows_means js a b =
    Decides-like (follows js a b)
    (λ h. let x = h.1.1.1 in (h.0, h.1.1.0, at js _ _ _ a refl h.1.0 x.0, at js _ _ _ b (omega arith) h.1.0 x.1))
    (λ h. (h.0, (h.2.job, (h.1, (on js _ _ _ a refl h.2, on js _ _ _ b (omega arith) h.3)))))
    (some_means (next a b) (λ xs. (k : ℕ) × (On xs k a × On xs (suc k) b)) [] (next_means a b) js)

three_some : (js : Jobs) (a b c : ℕ) → Decides (some (three a b c) js) (InTurn js a b c)
three_some js a b c =
    Decides-like (some (three a b c) js)
    (λ h. let x = h.1.1.1 in (h.0, h.1.1.0, at js _ _ _ a refl h.1.0 x.0, at js _ _ _ b (omega arith) h.1.0 x.1, at js _ _ _ c (omega arith) h.1.0 x.2))
    (λ h. (h.0, (h.2.job, (h.1, (on js _ _ _ a refl h.2, on js _ _ _ b (omega arith) h.3, on js _ _ _ c (omega arith) h.4)))))
    (some_means (three a b c) (λ xs. (k : ℕ) × (On xs k a × On xs (suc k) b × On xs (suc (suc k)) c)) [] (three_means a b c) js)

-- a step is kept if it is not looping, and taken out if it is
module _ (js : Jobs) where
  abbrev keeps : ℕ → Bool
  keeps s = not (looping js s)

  keeps_means : (s : ℕ) → Decides (keeps s) (Follows js s s → ⊥)
  keeps_means s = Decides-not (looping js s) (follows_means js s s)

  skips : (s : ℕ) → keeps s ≡ false → Follows js s s
  skips s e = elim (cases_Bool (looping js s)) [ inl y ↦ (follows_means js s s).0 y | inr n ↦ absurd (both_ways (keeps s) e (not_from_false (looping js s) n)) ]

  skipped : (s : ℕ) → Follows js s s → keeps s ≡ false
  skipped s h = not_from_true (looping js s) ((follows_means js s s).1 h)

  module _ (a b : ℕ) where
    held : (i k : ℕ) → i < length js → Kept keeps a b (get_or js i []) k → FollowsIn js a b
    held i k lt h =
        let xs = get_or js i [] in
        let l = h.2.0 in
        let d = h.2.1 in (
          i,
          k,
          suc k + l,
          omega arith,
          at js i k k a refl lt h.1,
          at js i (suc k + l) (suc k + l) b refl lt ((on_drop xs (suc k) l (suc k + l) b refl).0 d.0),
          (keeps_means a).0 h.0,
          (keeps_means b).0 d.1,
          λ m s low high e. skips s (d.2 (m - suc k) s (omega arith) ((on_drop xs (suc k) (m - suc k) m s (omega arith)).1 (on js i m m s refl e))),
        )

    kept : (h : FollowsIn js a b) → Kept keeps a b (get_or js h.0 []) h.1
    kept h =
        let i = h.0 in
        let k = h.1 in
        let l = h.2 in
        let xs = get_or js i [] in
        let lt : k < l = h.3 in (
          (keeps_means a).1 h.6,
          on js i k k a refl h.4,
          (
            l - suc k,
            (
              (on_drop xs (suc k) (l - suc k) l b (omega arith)).1 (on js i l l b refl h.5),
              (keeps_means b).1 h.7,
              λ m s less e. skipped s (h.8 (suc k + m) s (omega arith) (omega arith) (at js i (suc k + m) (suc k + m) s refl h.4.job ((on_drop xs (suc k) m (suc k + m) s refl).0 e))),
            ),
          ),
        )

    held_means : Decides (precedes js a b) (FollowsIn js a b)
    held_means =
        Decides-at (precedes js a b) (some (λ xs. next a b (filter keeps xs)) js) (some_map (next a b) (filter keeps) js)
        (Decides-like _ (λ h. held h.0 h.1.1.0 h.1.0 h.1.1.1) (λ h. (h.0, (h.4.job, (h.1, kept h))))
        (some_means (λ xs. next a b (filter keeps xs)) (λ xs. (k : ℕ) × Kept keeps a b xs k) [] (next_kept keeps a b) js))

    precedes_means : Decides (precedes js a b) (Follows (reduced js) a b)
    precedes_means = follows_means (reduced js) a b

    turn_means : Decides (turn js a b) (Turn js a b)
    turn_means =
        Decides-like (turn js a b) (λ h. (h.0, h.1.0, h.1.1)) (λ h. (h.0, (h.1, h.2)))
        (Decides-and _ _ (Decides-not _ (Decides-eqb a b)) (Decides-and _ _ (three_some (reduced js) a b a) (three_some (reduced js) b a b)))

  leads_means : (a b : ℕ) → Decides (leads js a b) (Leads js a b)
  leads_means a b = Decides-and _ _ (precedes_means a b) (Decides-or _ _ (Decides-not _ (precedes_means b a)) (turn_means a b))

  beside_means : (a b : ℕ) → Decides (beside js a b) (Follows (reduced js) a b × Follows (reduced js) b a × (Turn js a b → ⊥))
  beside_means a b =
      Decides-like (beside js a b) (λ h. (h.0.0, h.0.1, h.1)) (λ h. ((h.0, h.1), h.2))
      (decides_but _ _ (Decides-and _ _ (precedes_means a b) (precedes_means b a)) (turn_means a b))

  feeds_means : (a b : ℕ) → Decides (feeds js a b) (Leads js a b × (Follows (reduced js) a a → ⊥) × (Follows (reduced js) b b → ⊥))
  feeds_means a b =
      Decides-like (feeds js a b) (λ h. (h.0, h.1.0, h.1.1)) (λ h. (h.0, (h.1, h.2)))
      (Decides-and _ _ (leads_means a b) (decides_neither _ _ (precedes_means a a) (precedes_means b b)))

  -- b stands right after a, and s is not looping
  near_means : (a b s : ℕ) → Decides (follows js a b && keeps s) (Follows js a b × (Follows js s s → ⊥))
  near_means a b s = decides_but _ _ (follows_means js a b) (follows_means js s s)

  pub means : Means js
  means =
      record {
        seen_is = seen_means js;
        looping_is = λ s. follows_means js s s;
        stands_is = seen_means (reduced js);
        first_is = begins_some (reduced js);
        last_is = ends_some (reduced js);
        precedes_is = precedes_means;
        precedes_held_is = held_means;
        turn_is = turn_means;
        leads_is = leads_means;
        unrelated_is = λ a b. decides_neither _ _ (precedes_means a b) (precedes_means b a);
        beside_is = beside_means;
        feeds_is = feeds_means;
        before_is = λ t s. near_means s t s;
        after_is = λ t s. near_means t s s;
        only_before_is = λ t s. decides_but _ _ (near_means s t s) (near_means t s s);
        only_after_is = λ t s. decides_but _ _ (near_means t s s) (near_means s t s);
      }
