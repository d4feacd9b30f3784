-- A feed has one answer, and leaves one list of jobs and one trail. Assumes nothing.
use Rattle.std.proofs.Common.{◌≡◌, ℕ, ◌+◌, ◌<◌, ◌≤◌, ◌⊎◌, List, [], ◌∷◌, Ok, Err, Result, sym, refl, ap, ◌∙◌, subst, inl, inr, arith}
use Rattle.std.specs.declared.cmp.Ordering.{Ordering}
use Rattle.steps.specs.declared.faults.RosterFault.TheVariants.{Unfit, Unlisted}
use Rattle.steps.specs.Rosters.{Fit, numbers}
use Rattle.trails.specs.Jobs.{Ending}
use Rattle.std.specs.Prelude.{None as End, Some as Fault}
use Rattle.book.specs.declared.entries.Entry.{Entry}
use Rattle.book.specs.declared.entries.Entry.TheVariants.{New, Held}
use Rattle.book.specs.declared.faults.Void as why
use Rattle.book.specs.declared.faults.EnterFault.{EnterFault}
use Rattle.book.specs.declared.faults.EnterFault.TheVariants as enter
use Rattle.book.specs.declared.faults.FeedFault.{FeedFault}
use Rattle.book.specs.declared.faults.FeedFault.TheVariants.{Void, Roster, ShortWork, Trail, Room}
use Rattle.book.specs.Enter.{Entered, VoidBy}
use Rattle.book.specs.Feed.{Closed, Declined, Feeds, Fed}
use Rattle.book.specs.Jobs.{Apart, Opens}
use Rattle.book.proofs.Lay.{apart_push}
use Rattle.book.proofs.Settled.{settled}
use Rattle.book.proofs.Voids.{void_open, void_same}

module _ {S : Type 0} (order : S → S → Ordering) (steps len : ℕ) (roster : List S) where
  -- accepted jobs stay apart
  apart_entered : (a : Entry) (hs more : List (List ℕ)) (job : List S) → Apart hs → Entered order steps len hs roster job (Ok a) more → Apart more
  apart_entered (New n) hs more job h t = subst Apart (sym t.4.3) (apart_push hs (numbers order roster job) h t.4.0)
  apart_entered (Held n) hs more job h t = subst Apart (sym t.4.1) h

  not_both : (a : Entry) (f : EnterFault) (hs more less : List (List ℕ)) (job : List S) → Apart hs → Entered order steps len hs roster job (Ok a) more → Entered order steps len hs roster job (Err f) less → ⊥
  not_both a f hs more less job h p q =
      let e : Err f ≡ Ok a = (settled order steps len hs h roster job (Ok a) (Err f) more less p q).0 in
      let z : ◌≡◌ {A = ℕ} 0 1 = cc in
      omega arith

  -- a job is not both entered and declined
  entered_declined : (r : Result ℕ FeedFault) (a : Entry) (hs more : List (List ℕ)) (job : List S) (k : ℕ) → Apart hs → Entered order steps len hs roster job (Ok a) more → Declined order steps len roster hs job k r → ⊥
  entered_declined (Ok n) a hs more job k h p d = d
  entered_declined (Err (Void v)) a hs more job k h p d = d
  entered_declined (Err (Roster f n)) a hs more job k h p d = not_both a (enter.Roster f) hs more hs job h p d.1
  entered_declined (Err ShortWork) a hs more job k h p d = d
  entered_declined (Err (Trail f n)) a hs more job k h p d = d
  entered_declined (Err (Room n)) a hs more job k h p d = not_both a enter.Room hs more hs job h p d.1

  declined_once : (r s : Result ℕ FeedFault) (hs : List (List ℕ)) (job : List S) (k : ℕ) → Apart hs → Declined order steps len roster hs job k r → Declined order steps len roster hs job k s → s ≡ r
  declined_once (Ok n) s hs job k h p q = absurd p
  declined_once (Err (Void v)) s hs job k h p q = absurd p
  declined_once (Err ShortWork) s hs job k h p q = absurd p
  declined_once (Err (Trail f n)) s hs job k h p q = absurd p
  declined_once (Err (Roster f n)) (Ok m) hs job k h p q = absurd q
  declined_once (Err (Roster f n)) (Err (Void v)) hs job k h p q = absurd q
  declined_once (Err (Roster f n)) (Err (Roster g m)) hs job k h p q =
      let e : Err (enter.Roster g) ≡ Err (enter.Roster f) = (settled order steps len hs h roster job (Err (enter.Roster f)) (Err (enter.Roster g)) hs hs p.1 q.1).0 in
      let same : g ≡ f = cc in
      let at : m ≡ n = q.0 ∙ sym p.0 in
      ap (λ x. Err (Roster x m)) same ∙ ap (λ x. Err (Roster f x)) at
  declined_once (Err (Roster f n)) (Err ShortWork) hs job k h p q = absurd q
  declined_once (Err (Roster f n)) (Err (Trail g m)) hs job k h p q = absurd q
  declined_once (Err (Roster f n)) (Err (Room m)) hs job k h p q =
      let e : Err enter.Room ≡ Err (enter.Roster f) = (settled order steps len hs h roster job (Err (enter.Roster f)) (Err enter.Room) hs hs p.1 q.1).0 in
      let z : ◌≡◌ {A = ℕ} 0 1 = cc in
      absurd (omega arith)
  declined_once (Err (Room n)) (Ok m) hs job k h p q = absurd q
  declined_once (Err (Room n)) (Err (Void v)) hs job k h p q = absurd q
  declined_once (Err (Room n)) (Err (Roster g m)) hs job k h p q =
      let e : Err (enter.Roster g) ≡ Err enter.Room = (settled order steps len hs h roster job (Err enter.Room) (Err (enter.Roster g)) hs hs p.1 q.1).0 in
      let z : ◌≡◌ {A = ℕ} 0 1 = cc in
      absurd (omega arith)
  declined_once (Err (Room n)) (Err ShortWork) hs job k h p q = absurd q
  declined_once (Err (Room n)) (Err (Trail g m)) hs job k h p q = absurd q
  declined_once (Err (Room n)) (Err (Room m)) hs job k h p q = ap (λ x. Err (Room x)) (q.0 ∙ sym p.0)

  closed_once : (e : Ending) (k : ℕ) (r s : Result ℕ FeedFault) → Closed e k r → Closed e k s → s ≡ r
  closed_once End k r s p q = q ∙ sym p
  closed_once (Fault f) k r s p q = q ∙ sym p

  feeds_once : (js : List (List S)) (e : Ending) (k : ℕ) (hs : List (List ℕ)) → Apart hs → (r s : Result ℕ FeedFault) (a b : List (List ℕ)) (x y : List (List S))
      → Feeds order steps len roster js e k hs r a x → Feeds order steps len roster js e k hs s b y → (s ≡ r) × (b ≡ a) × (y ≡ x)
  feeds_once [] e k hs h r s a b x y p q = (closed_once e k r s p.0 q.0, q.1 ∙ sym p.1, q.2 ∙ sym p.2)
  feeds_once (j ∷ js) e k hs h r s a b x y (inl (c, m, entered, rest)) (inl (d, n, also, more)) =
      let same : n ≡ m = (settled order steps len hs h roster j (Ok c) (Ok d) m n entered also).1 in
      feeds_once js e (k + 1) m (apart_entered c hs m j h entered) r s a b x y rest (subst (λ t. Feeds order steps len roster js e (k + 1) t s b y) same more)
  feeds_once (j ∷ js) e k hs h r s a b x y (inl (c, m, entered, rest)) (inr q) = absurd (entered_declined s c hs m j k h entered q.0)
  feeds_once (j ∷ js) e k hs h r s a b x y (inr p) (inl (d, n, also, more)) = absurd (entered_declined r d hs n j k h also p.0)
  feeds_once (j ∷ js) e k hs h r s a b x y (inr p) (inr q) = (declined_once r s hs j k h p.0 q.0, q.1 ∙ sym p.1, q.2 ∙ sym p.2)

  -- what declines a feed ahead of its jobs, for so much work memory
  data Early : Type 0 where
    void : why.Void → Early
    unfit : Early
    short : Early

  abbrev fault : Early → FeedFault
  fault (void v) = Void v
  fault unfit = Roster Unfit 0
  fault short = ShortWork

  abbrev EarlyBy : ℕ → Early → Type 0
  EarlyBy w (void v) = VoidBy steps len v
  EarlyBy w unfit = Opens steps len × (Fit order roster steps → ⊥)
  EarlyBy w short = Opens steps len × Fit order roster steps × (w < 1000)

  -- a feed by what it comes to
  abbrev Seen : List (List S) → Ending → ℕ → List (List ℕ) → Result ℕ FeedFault → List (List ℕ) → List (List S) → Type 0
  Seen js e w hs r a x =
      ((c : Early) × EarlyBy w c × (r ≡ Err (fault c)) × (a ≡ hs) × (x ≡ js))
      ⊎ (Opens steps len × Fit order roster steps × (1000 ≤ w) × Feeds order steps len roster js e 0 hs r a x)

  seen : (r : Result ℕ FeedFault) (js : List (List S)) (e : Ending) (w : ℕ) (hs a : List (List ℕ)) (x : List (List S)) → Fed order steps len roster js e w hs r a x → Seen js e w hs r a x
  seen (Ok n) js e w hs a x t = inr t
  seen (Err (Void v)) js e w hs a x t = inl (void v, t.0, refl, t.1, t.2)
  seen (Err (Roster Unfit n)) js e w hs a x t = inl (unfit, (t.0, t.1), ap (λ m. Err (Roster Unfit m)) t.2, t.3, t.4)
  seen (Err (Roster (Unlisted p) n)) js e w hs a x t = inr t
  seen (Err ShortWork) js e w hs a x t = inl (short, (t.0, t.1, t.2), refl, t.3, t.4)
  seen (Err (Trail f n)) js e w hs a x t = inr t
  seen (Err (Room n)) js e w hs a x t = inr t

  early_once : (w : ℕ) (c d : Early) → EarlyBy w c → EarlyBy w d → fault d ≡ fault c
  early_once w (void v) (void u) p q = ap Void (void_same steps len u v q p)
  early_once w (void v) unfit p q = absurd (void_open steps len v p q.0)
  early_once w (void v) short p q = absurd (void_open steps len v p q.0)
  early_once w unfit (void u) p q = absurd (void_open steps len u q p.0)
  early_once w unfit unfit p q = refl
  early_once w unfit short p q = absurd (p.1 q.1)
  early_once w short (void u) p q = absurd (void_open steps len u q p.0)
  early_once w short unfit p q = absurd (q.1 p.1)
  early_once w short short p q = refl

  early_or_jobs : (w : ℕ) (c : Early) → EarlyBy w c → Opens steps len → Fit order roster steps → 1000 ≤ w → ⊥
  early_or_jobs w (void v) p o f l = void_open steps len v p o
  early_or_jobs w unfit p o f l = p.1 f
  early_or_jobs w short p o f l = omega (arith, p.2)

  seen_once : (js : List (List S)) (e : Ending) (w : ℕ) (hs : List (List ℕ)) → Apart hs → (r s : Result ℕ FeedFault) (a b : List (List ℕ)) (x y : List (List S)) → Seen js e w hs r a x → Seen js e w hs s b y → (s ≡ r) × (b ≡ a) × (y ≡ x)
  seen_once js e w hs h r s a b x y (inl (c, p, is, u, v)) (inl (d, q, is₁, m, n)) = (is₁ ∙ ap Err (early_once w c d p q) ∙ sym is, m ∙ sym u, n ∙ sym v)
  seen_once js e w hs h r s a b x y (inl (c, p, is, u, v)) (inr (o, f, l, t)) = absurd (early_or_jobs w c p o f l)
  seen_once js e w hs h r s a b x y (inr (o, f, l, t)) (inl (d, q, is₁, m, n)) = absurd (early_or_jobs w d q o f l)
  seen_once js e w hs h r s a b x y (inr (o, f, l, t)) (inr (o₁, f₁, l₁, t₁)) = feeds_once js e 0 hs h r s a b x y t t₁

  pub fed_once : (js : List (List S)) (e : Ending) (w : ℕ) (hs : List (List ℕ)) → Apart hs → (r s : Result ℕ FeedFault) (a b : List (List ℕ)) (x y : List (List S))
      → Fed order steps len roster js e w hs r a x → Fed order steps len roster js e w hs s b y → (s ≡ r) × (b ≡ a) × (y ≡ x)
  fed_once js e w hs h r s a b x y p q = seen_once js e w hs h r s a b x y (seen r js e w hs a x p) (seen s js e w hs b y q)
