-- A feed after a feed is a feed of both
use Rattle.std.proofs.Common.{◌≡◌, ℕ, ◌+◌, List, [], ◌∷◌, ◌++◌, Ok, Err, Result, ap, subst, inl, inr, arith}
use Rattle.std.specs.declared.cmp.Ordering.{Ordering}
use Rattle.trails.specs.Jobs.{Ending}
use Rattle.std.specs.Prelude.{None as End, Some as Fault}
use Rattle.book.specs.declared.faults.FeedFault.{FeedFault}
use Rattle.book.specs.declared.faults.FeedFault.TheVariants.{Void, Roster, ShortWork, Trail, Room}
use Rattle.book.specs.Feed.{Closed, Declined, Feeds, Together, later}

module _ {S : Type 0} (order : S → S → Ordering) (steps len : ℕ) (roster : List S) (m : ℕ) where
  closed_later : (e : Ending) (k : ℕ) (r : Result ℕ FeedFault) → Closed e k r → Closed e (m + k) (later m r)
  closed_later End k r c = ap (later m) c
  closed_later (Fault f) k r c = ap (later m) c

  declined_later : (r : Result ℕ FeedFault) (hs : List (List ℕ)) (job : List S) (k : ℕ) → Declined order steps len roster hs job k r → Declined order steps len roster hs job (m + k) (later m r)
  declined_later (Ok n) hs job k d = d
  declined_later (Err (Void v)) hs job k d = d
  declined_later (Err (Roster f n)) hs job k d = (ap (λ x. m + x) d.0, d.1)
  declined_later (Err ShortWork) hs job k d = d
  declined_later (Err (Trail f n)) hs job k d = d
  declined_later (Err (Room n)) hs job k d = (ap (λ x. m + x) d.0, d.1)

  -- what is fed after k jobs is fed after m more
  feeds_later : (js : List (List S)) (e : Ending) (k : ℕ) (hs : List (List ℕ)) (r : Result ℕ FeedFault) (hs' : List (List ℕ)) (left : List (List S))
      → Feeds order steps len roster js e k hs r hs' left → Feeds order steps len roster js e (m + k) hs (later m r) hs' left
  feeds_later [] e k hs r hs' left t = (closed_later e k r t.0, t.1, t.2)
  feeds_later (j ∷ js) e k hs r hs' left (inl (a, more, one, rest)) =
      let n : m + (k + 1) ≡ (m + k) + 1 = omega arith in
      inl (a, more, one, subst (λ x. Feeds order steps len roster js e x more (later m r) hs' left) n (feeds_later js e (k + 1) more r hs' left rest))
  feeds_later (j ∷ js) e k hs r hs' left (inr (d, same, rest)) = inr (declined_later r hs j k d, same, rest)

module _ {S : Type 0} (order : S → S → Ordering) (steps len : ℕ) (roster : List S) (js : List (List S)) (e : Ending) (hs : List (List ℕ)) (r : Result ℕ FeedFault) (hs' : List (List ℕ)) (left : List (List S)) where
  after : (earlier : List (List S)) (k : ℕ) (before : List (List ℕ)) (n : ℕ) → Feeds order steps len roster earlier End k before (Ok n) hs []
      → Feeds order steps len roster js e 0 hs r hs' left → Feeds order steps len roster (earlier ++ js) e k before (later n r) hs' left
  after [] k before n (closed, same, _) f =
      let count : n ≡ k = cc in
      let z : n + 0 ≡ k = omega arith in
      subst (λ b. Feeds order steps len roster js e k b (later n r) hs' left) same
      (subst (λ x. Feeds order steps len roster js e x hs (later n r) hs' left) z (feeds_later order steps len roster n js e 0 hs r hs' left f))
  after (x ∷ xs) k before n (inl (a, more, one, rest)) f = inl (a, more, one, after xs (k + 1) more n rest f)
  after (x ∷ xs) k before n (inr (d, _, _)) f = absurd d

  pub together : Together order steps len roster js e hs r hs' left
  together earlier before m t f = after earlier 0 before m t f
