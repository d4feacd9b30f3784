-- The steps of the two loops that cover sets
use Rattle.std.proofs.Common.{◌≡◌, ℕ, ◌+◌, ◌^◌, ◌<◌, true, ◌⊎◌, List, length, get_or, ap, ◌∙◌, inl, inr, ⊎_elim, arith}
use Rattle.std.specs.Prelude.{Contains}
use lib.Bits.{bit_and}
use Rattle.std.proofs.lemmas.Bool.{cases_eq}
use Rattle.groups.specs.declared.searching.Search.{Search}
use Rattle.groups.specs.Groups.{In, Paired}
use Rattle.groups.specs.Rows.{held, Lawful, JoinsAll, turned}
use Rattle.groups.specs.Search.{IsCovered, Kept, two, SeededAt, Seeded, ClosedAt, Closed}
use Rattle.groups.proofs.Sets.{or_in, one_in, and_in}
use Rattle.groups.proofs.RowBits.{held_row}
use Rattle.groups.proofs.Holding.{is_covered_kept, kept_at}

module _ (rows : List ℕ) (lawful : Lawful (held rows)) where
  -- the test of a seed
  pub two_paired : (u v : ℕ) → JoinsAll (held rows) u (two u v) → JoinsAll (held rows) v (two u v) → Paired (held rows) (two u v)
  two_paired u v a b p q i j = ⊎_elim (λ o. rw (← one_in u p o) (a q j)) (λ o. rw (← one_in v p o) (b q j)) (or_in (2 ^ u) (2 ^ v) p i)

  two_test : (u v : ℕ) → held rows u u ≡ true → held rows v v ≡ true → held rows u v ≡ true → JoinsAll (held rows) u (two u v) × JoinsAll (held rows) v (two u v)
  two_test u v a b c = (
    (λ p i. ⊎_elim (λ o. rw (← one_in u p o) a) (λ o. rw (← one_in v p o) c) (or_in (2 ^ u) (2 ^ v) p i)),
    (λ p i. ⊎_elim (λ o. rw (← one_in u p o) (lawful.even v u ∙ c)) (λ o. rw (← one_in v p o) b) (or_in (2 ^ u) (2 ^ v) p i)),
  )

  -- the test of a turn
  pub turned_paired : (g w : ℕ) → Paired (held rows) g → JoinsAll (held rows) w (turned rows g w) → Paired (held rows) (turned rows g w)
  turned_paired g w h t p q i j =
      let row = get_or rows w 0 in
      let split : (x : ℕ) → In (turned rows g w) x → In g x ⊎ (w ≡ x) = λ x k. ⊎_elim (λ o. inl (and_in g row x o).0) (λ o. inr (one_in w x o)) (or_in (bit_and g row) (2 ^ w) x k) in
      ⊎_elim (λ gp. ⊎_elim (λ gq. h p q gp gq) (λ e. rw (← e) (lawful.even p w ∙ t p i)) (split q j)) (λ e. rw (← e) (t q j)) (split p i)

  turned_test : (g w : ℕ) → held rows w w ≡ true → JoinsAll (held rows) w (turned rows g w)
  turned_test g w h p i =
      let row = get_or rows w 0 in
      ⊎_elim (λ o. (held_row rows w).from p (and_in g row p o).1) (λ o. rw (← one_in w p o) h) (or_in (bit_and g row) (2 ^ w) p i)

-- what is covered stays so
module _ (a b : Search) (k : Kept a b) where
  seeded_at_kept : (u m : ℕ) → SeededAt a u m → SeededAt b u m
  seeded_at_kept u m s v l x y z = is_covered_kept a b k (two u v) (s v l (rw k.rows at x) (rw k.rows at y) (rw k.rows at z))

  pub seeded_kept : (m : ℕ) → Seeded a m → Seeded b m
  seeded_kept m s u l = seeded_at_kept u 64 (s u l)

  closed_at_kept : (g m : ℕ) → ClosedAt a g m → ClosedAt b g m
  closed_at_kept g m s w l x = rw k.rows (is_covered_kept a b k (turned a.rows.bits g w) (s w l (rw k.rows at x)))

  -- one more of each loop
  pub seeded_at : (u v : ℕ) → IsCovered b (two u v) → SeededAt a u v → SeededAt b u (v + 1)
  seeded_at u v c s x l p q r = ⊎_elim (λ e. rw e c) (λ e. seeded_at_kept u v s x (omega arith) p q r) (cases_eq x v)

  pub closed_at : (g w : ℕ) → IsCovered b (turned b.rows.bits g w) → ClosedAt a g w → ClosedAt b g (w + 1)
  closed_at g w c s x l p = ⊎_elim (λ e. rw e c) (λ e. closed_at_kept g w s x (omega arith) p) (cases_eq x w)

  pub closed_more : (i : ℕ) → i < length a.found.items → Closed a i → ClosedAt b (get_or a.found.items i 0) 64 → Closed b (i + 1)
  closed_more i li s at j l =
      ⊎_elim (λ e. let q : get_or b.found.items j 0 ≡ get_or a.found.items i 0 = ap (λ x. get_or b.found.items x 0) e ∙ kept_at a b k i li in rw q at)
      (λ e. let m : j < i = omega arith in rw (kept_at a b k j (omega arith)) (closed_at_kept (get_or a.found.items j 0) 64 (s j m))) (cases_eq j i)

module _ (a : Search) where
  pub seeded_more : (u : ℕ) → Seeded a u → SeededAt a u 64 → Seeded a (u + 1)
  seeded_more u s at x l = ⊎_elim (λ e. rw e at) (λ e. s x (omega arith)) (cases_eq x u)

  pub seeded_skip : (u v : ℕ) → (JoinsAll (held a.rows.bits) u (two u v) → JoinsAll (held a.rows.bits) v (two u v) → ⊥) → SeededAt a u v → SeededAt a u (v + 1)
  seeded_skip u v nay s x l p q r =
      ⊎_elim (λ e. let t = two_test a.rows.bits a.rows.lawful u v p (rw e at q) (rw e at r) in absurd (nay t.0 t.1)) (λ e. s x (omega arith) p q r) (cases_eq x v)

  closed_skip : (g w : ℕ) → (held a.rows.bits w w ≡ true → IsCovered a (turned a.rows.bits g w)) → ClosedAt a g w → ClosedAt a g (w + 1)
  closed_skip g w c s x l p = ⊎_elim (λ e. let h : held a.rows.bits w w ≡ true = rw e at p in rw e (c h)) (λ e. s x (omega arith) p) (cases_eq x w)

  pub closed_none : (g w : ℕ) → (JoinsAll (held a.rows.bits) w (turned a.rows.bits g w) → ⊥) → ClosedAt a g w → ClosedAt a g (w + 1)
  closed_none g w nay = closed_skip g w (λ h. absurd (nay (turned_test a.rows.bits a.rows.lawful g w h)))

  pub closed_same : (g w : ℕ) → Contains a.found.items g → turned a.rows.bits g w ≡ g → ClosedAt a g w → ClosedAt a g (w + 1)
  closed_same g w (k, l, at) e = closed_skip g w (λ h x y. (k, g, l, at, λ p i. rw e at i))
