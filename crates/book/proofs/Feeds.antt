-- One job more of a feed. Assumes nothing.
use Rattle.std.proofs.Common.{◌≡◌, ℕ, ◌+◌, ◌^◌, ◌≤◌, List, [], ◌∷◌, ◌++◌, length, take, drop, Ok, Err, Result, sym, refl, ap, ◌∙◌, subst, inl, inr, ⊎_elim, append_assoc, arith}
use lib.Seq.{paste, paste-zero, take-paste, drop-paste, take-length}
use Rattle.std.proofs.lemmas.List.{take-append-drop, take-take, length-append, drop-drop}
use Rattle.std.specs.declared.cmp.Ordering.{Ordering}
use Rattle.steps.specs.declared.faults.RosterFault.TheVariants.{Unfit, Unlisted}
use Rattle.steps.specs.Rosters.{Fit}
use Rattle.trails.specs.Jobs.{Ending}
use Rattle.std.specs.Prelude.{None as End, Some as Fault, MatchResult, IsErrAnd}
use Rattle.std.proofs.lemmas.Result.{err_from_is_err_and}
use Rattle.book.specs.declared.shape.Book.{Book}
use Rattle.book.specs.declared.entries.Entry.{Entry}
use Rattle.book.specs.declared.entries.Entry.TheVariants.{New, Held}
use Rattle.book.specs.declared.faults.EnterFault.TheVariants as enter
use Rattle.book.specs.declared.faults.FeedFault.{FeedFault}
use Rattle.book.specs.declared.faults.FeedFault.TheVariants.{Void, Roster, ShortWork, Trail, Room}
use Rattle.book.specs.Enter.{Entered, Kept, written}
use Rattle.book.specs.Faults.{at_job}
use Rattle.book.specs.Feed.{laid, Closed, Declined, Feeds, Fed, Ready, Took}
use Rattle.book.proofs.Voids.{decide}
use Rattle.book.specs.Jobs.{encode, encoded, held, Opens}
use Rattle.book.specs.View.{Stays, held_by, memory_of}
use Rattle.book.proofs.Lay.{encode_push, used_is}

-- a book that stays from one call to the next stays over both
pub still : {a b c : Book} → Stays a b → Stays b c → Stays a c
still p q = record { steps = q.steps ∙ p.steps; long = q.long ∙ p.long; named = q.named ∙ p.named }

-- an open book's memory has its jobs laid in it
pub as_laid : (b : Book) → Opens b.steps (length (memory_of b)) → memory_of b ≡ laid (memory_of b) (held_by b)
as_laid b o =
    let ws = memory_of b in
    let e = encode (held_by b) in
    let used : b.used ≡ 1 + length e = used_is b o in
    let front : take b.used ws ≡ (2 ^ 31 + b.steps) ∷ e = b.laid o in
    let one : take 1 ws ≡ (2 ^ 31 + b.steps) ∷ [] = sym (take-take 1 b.used ws (omega arith)) ∙ ap (take 1) front in
    sym (take-append-drop b.used ws)
    ∙ ap (λ t. t ++ drop b.used ws) (front ∙ ap (λ t. t ++ e) (sym one) ∙ ap (λ t. take 1 ws ++ t) (sym (take-length e)))
    ∙ ap (λ n. take 1 ws ++ take (length e) e ++ drop n ws) used

-- and a void one's has none
void_laid : (b : Book) → (Opens b.steps (length (memory_of b)) → ⊥) → memory_of b ≡ laid (memory_of b) (held_by b)
void_laid b v = paste-zero (memory_of b) 1 [] ∙ ap (laid (memory_of b)) (sym (ap (λ n. held n (memory_of b)) (b.idle v)))

-- every book's memory has its jobs laid in it
pub always_laid : (b : Book) → memory_of b ≡ laid (memory_of b) (held_by b)
always_laid b = ⊎_elim (as_laid b) (void_laid b) (decide b.steps (length (memory_of b)))

-- a new job's words after those that are laid
pub laid_push : (ws : List ℕ) (hs : List (List ℕ)) (job : List ℕ) → 1 + length (encode hs) + length (encoded job) ≤ length ws
    → paste (laid ws hs) (1 + length (encode hs)) (encoded job) (length (encoded job)) ≡ laid ws (hs ++ job ∷ [])
laid_push ws hs job room =
    let e = encode hs in
    let j = encoded job in
    let more = encode (hs ++ job ∷ []) in
    let front : take (1 + length e) (laid ws hs) ≡ take 1 ws ++ e = take-paste ws 1 e (length e) (omega arith) (omega arith) ∙ ap (λ t. take 1 ws ++ t) (take-length e) in
    let back : drop (1 + length e + length j) (laid ws hs) ≡ drop (1 + length e + length j) ws =
    sym (drop-drop (length j) (1 + length e) (laid ws hs)) ∙ ap (drop (length j)) (drop-paste ws 1 e (length e) (omega arith) (omega arith)) ∙ drop-drop (length j) (1 + length e) ws in
    let all : more ≡ e ++ j = encode_push hs job in
    let long : 1 + length e + length j ≡ 1 + length more = omega (arith, ap length all, length-append e j) in
    ap (λ t. t ++ take (length j) j ++ drop (1 + length e + length j) (laid ws hs)) front
    ∙ ap (λ t. (take 1 ws ++ e) ++ t ++ drop (1 + length e + length j) (laid ws hs)) (take-length j)
    ∙ ap (λ t. (take 1 ws ++ e) ++ j ++ t) back
    ∙ ap (λ t. t ++ drop (1 + length e + length j) ws) (append_assoc (take 1 ws) e j ∙ ap (λ t. take 1 ws ++ t) (sym all ∙ sym (take-length more)))
    ∙ ap (λ n. take 1 ws ++ take (length more) more ++ drop n ws) long

-- what is written keeps the memory laid
module _ (ws memory after : List ℕ) (hs hs' : List (List ℕ)) (job : List ℕ) (sofar : memory ≡ laid ws hs) (long : length memory ≡ length ws) where
  pub laid_kept : (a : Entry) → Kept (length memory) hs job (Ok a) hs' → after ≡ written {E = FeedFault} hs job (Ok a) memory → after ≡ laid ws hs'
  laid_kept (New n) k e =
      e ∙ ap (λ m. paste m (1 + length (encode hs)) (encoded job) (length (encoded job))) sofar
      ∙ laid_push ws hs job (omega (arith, k.1, long)) ∙ ap (laid ws) (sym k.3)
  laid_kept (Held n) k e = e ∙ sofar ∙ ap (laid ws) (sym k.1)

module _ {S : Type 0} (order : S → S → Ordering) (steps len : ℕ) (roster : List S) where
  -- a job that is declined leaves what is held, and the feed stops there
  pub declines : (f : FeedFault) (job : List S) (js : List (List S)) (e : Ending) (k : ℕ) (hs hs' : List (List ℕ)) → Fit order roster steps
      → Took order steps len roster hs job (Err f) hs' → (hs' ≡ hs) × Feeds order steps len roster (job ∷ js) e k hs (Err (at_job f k)) hs' js
  declines (Void v) job js e k hs hs' fit t = absurd t
  declines ShortWork job js e k hs hs' fit t = absurd t
  declines (Trail f n) job js e k hs hs' fit t = absurd t
  declines (Roster Unfit n) job js e k hs hs' fit t = absurd (t.1.1 fit)
  declines (Roster (Unlisted p) n) job js e k hs hs' fit t = let same = t.1.4 in (same, inr ((refl, subst (Entered order steps len hs roster job (Err (enter.Roster (Unlisted p)))) same t.1), same, refl))
  declines (Room n) job js e k hs hs' fit t = let same = t.1.6 in (same, inr ((refl, subst (Entered order steps len hs roster job (Err enter.Room)) same t.1), same, refl))

  -- what the jobs and the ending of a trail can make of a feed
  abbrev OfJobs : Result ℕ FeedFault → Type 0
  OfJobs (Ok n) = Unit {0}
  OfJobs (Err (Void v)) = ⊥
  OfJobs (Err (Roster Unfit n)) = ⊥
  OfJobs (Err (Roster (Unlisted p) n)) = Unit {0}
  OfJobs (Err ShortWork) = ⊥
  OfJobs (Err (Trail f n)) = Unit {0}
  OfJobs (Err (Room n)) = Unit {0}

  declined_of : (r : Result ℕ FeedFault) (hs : List (List ℕ)) (j : List S) (k : ℕ) → Fit order roster steps → Declined order steps len roster hs j k r → OfJobs r
  declined_of (Ok n) hs j k fit d = tt
  declined_of (Err (Void v)) hs j k fit d = d
  declined_of (Err (Roster Unfit n)) hs j k fit d = d.1.1 fit
  declined_of (Err (Roster (Unlisted p) n)) hs j k fit d = tt
  declined_of (Err ShortWork) hs j k fit d = d
  declined_of (Err (Trail f n)) hs j k fit d = tt
  declined_of (Err (Room n)) hs j k fit d = tt

  closed_of : (r : Result ℕ FeedFault) (e : Ending) (k : ℕ) → Closed e k r → OfJobs r
  closed_of r End k c = subst OfJobs (sym c) tt
  closed_of r (Fault f) k c = subst OfJobs (sym c) tt

  of_jobs : (r : Result ℕ FeedFault) (js : List (List S)) (e : Ending) (k : ℕ) (hs hs' : List (List ℕ)) (left : List (List S)) → Fit order roster steps → Feeds order steps len roster js e k hs r hs' left → OfJobs r
  of_jobs r [] e k hs hs' left fit t = closed_of r e k t.0
  of_jobs r (j ∷ js) e k hs hs' left fit (inl (a, more, entered, rest)) = of_jobs r js e (k + 1) more hs' left fit rest
  of_jobs r (j ∷ js) e k hs hs' left fit (inr t) = declined_of r hs j k fit t.0

  -- a feed that is declined ahead of its jobs leaves book and trail
  pub early : (f : FeedFault) (js : List (List S)) (e : Ending) (w : ℕ) (hs : List (List ℕ)) → Ready order steps len roster {A = Unit {0}} w (Err f) → Fed order steps len roster js e w hs (Err f) hs js
  early (Void v) js e w hs t = (t, refl, refl)
  early (Roster Unfit n) js e w hs t = (t.0, t.1, t.2, refl, refl)
  early (Roster (Unlisted p) n) js e w hs t = absurd t
  early ShortWork js e w hs t = (t.0, t.1, t.2, refl, refl)
  early (Trail x n) js e w hs t = absurd t
  early (Room n) js e w hs t = absurd t

  -- a feed that went through the rows ahead of its jobs
  pub went : (r : Result ℕ FeedFault) (js : List (List S)) (e : Ending) (w : ℕ) (hs hs' : List (List ℕ)) (left : List (List S)) → Opens steps len → Fit order roster steps → 1000 ≤ w
      → Feeds order steps len roster js e 0 hs r hs' left → Fed order steps len roster js e w hs r hs' left
  went (Ok n) js e w hs hs' left o f h t = (o, f, h, t)
  went (Err (Void v)) js e w hs hs' left o f h t = absurd (of_jobs (Err (Void v)) js e 0 hs hs' left f t)
  went (Err (Roster Unfit n)) js e w hs hs' left o f h t = absurd (of_jobs (Err (Roster Unfit n)) js e 0 hs hs' left f t)
  went (Err (Roster (Unlisted p) n)) js e w hs hs' left o f h t = (o, f, h, t)
  went (Err ShortWork) js e w hs hs' left o f h t = absurd (of_jobs (Err ShortWork) js e 0 hs hs' left f t)
  went (Err (Trail x n)) js e w hs hs' left o f h t = (o, f, h, t)
  went (Err (Room n)) js e w hs hs' left o f h t = (o, f, h, t)

-- one turn of a feed: the trail's next job is at the start of the work memory v, and the book has so far kept its steps and its length
module _ {S : Type 0} (order : S → S → Ordering) (roster : List S) (steps len steps₁ len₁ : ℕ) (same_steps : steps₁ ≡ steps) (same_len : len₁ ≡ len)
    (js ks : List (List S)) (job : List S) (next : js ≡ job ∷ ks) (e : Ending) (k : ℕ) (hs hs' : List (List ℕ)) where
  here : (r : Result Entry FeedFault) → Took order steps₁ len₁ roster hs job r hs' → Took order steps len roster hs job r hs'
  here r t = subst (λ l. Took order steps l roster hs job r hs') same_len (subst (λ s. Took order s len₁ roster hs job r hs') same_steps t)

  pub turn_declined : (f r : FeedFault) → Fit order roster steps → r ≡ at_job f k → Took order steps₁ len₁ roster hs job (Err f) hs' → (hs' ≡ hs) × Feeds order steps len roster js e k hs (Err r) hs' ks
  turn_declined f r fit is t =
      let d = declines order steps len roster f job ks e k hs hs' fit (here (Err f) t) in
      (d.0, subst (λ x. Feeds order steps len roster js e k hs (Err x) hs' ks) (sym is) (subst (λ x. Feeds order steps len roster x e k hs (Err (at_job f k)) hs' ks) (sym next) d.1))

  pub turn_entered : (a : Entry) → Took order steps₁ len₁ roster hs job (Ok a) hs' → (r : Result ℕ FeedFault) (x : List (List ℕ)) (left : List (List S)) → Feeds order steps len roster ks e (k + 1) hs' r x left → Feeds order steps len roster js e k hs r x left
  turn_entered a t r x left more = subst (λ y. Feeds order steps len roster y e k hs r x left) (sym next) (inl (a, hs', here (Ok a) t, more))

-- what `map_err` of what an entry answers says of it, where its closure tells the number of jobs ahead
module _ {Post : FeedFault → FeedFault → Type 0} (k : ℕ) (post : (e f : FeedFault) → Post e f → f ≡ at_job e k) where
  pub declined_at : (t m : Result Entry FeedFault) → MatchResult t (λ x. m ≡ Ok x) (λ e. IsErrAnd m (Post e)) → (f : FeedFault) → m ≡ Err f → (e : FeedFault) × (t ≡ Err e) × (f ≡ at_job e k)
  declined_at (Ok x) m h f p = grind arith
  declined_at (Err e) m h f p = let q = err_from_is_err_and m h in (e, refl, inside (sym p ∙ q.1) ∙ post e q.0 q.2)
    where
      inside : {x y : FeedFault} → ◌≡◌ {A = Result Entry FeedFault} (Err x) (Err y) → x ≡ y
      inside e = grind arith

  pub accepted_at : (t m : Result Entry FeedFault) → MatchResult t (λ x. m ≡ Ok x) (λ e. IsErrAnd m (Post e)) → (x : Entry) → m ≡ Ok x → t ≡ Ok x
  accepted_at (Ok y) m h x p = sym h ∙ p
  accepted_at (Err e) m h x p = let q = err_from_is_err_and m h in grind arith
