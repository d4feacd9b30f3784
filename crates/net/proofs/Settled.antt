-- A draw has one answer, and leaves one memory
use Rattle.std.proofs.Common.{◌≡◌, ℕ, ◌<◌, ◌≤◌, true, false, List, ◌++◌, length, take, drop, Ok, Err, Result, sym, refl, ap, ◌∙◌, ⊎_elim, arith}
use Rattle.std.proofs.lemmas.List.{length-take, take-append-drop}
use Rattle.std.proofs.lemmas.Bool.{both_ways, cases_order}
use Rattle.groups.proofs.Listings.{one_listing}
use Rattle.bonds.specs.Pairs.{place_pairs, feeder_mark, fed_mark}
use Rattle.book.proofs.Voids.{void_open, void_same}
use Rattle.flow.specs.Flow.{Jobs, some}
use Rattle.net.specs.declared.faults.DrawFault.{DrawFault}
use Rattle.net.specs.declared.faults.DrawFault.TheVariants.{Void, TooMany, Unseated, TooShort}
use Rattle.net.specs.Draw.{Drew, LowestUnseated, OnlyDrew}
use Rattle.net.specs.Net.{Draws, Places, sits, words, net}

module _ (js : Jobs) where
  one_list : (xs ys : List ℕ) → Places js xs → Places js ys → xs ≡ ys
  one_list xs ys a b = one_listing (place_pairs js) feeder_mark fed_mark xs ys a b

  one_net : (ws vs : List ℕ) → Draws js ws → Draws js vs → ws ≡ vs
  one_net ws vs a b = a.written ∙ ap (λ gs. words (net js gs)) (one_list a.groups b.groups a.listed b.listed) ∙ sym b.written

  -- few places are not over 256
  few_many : (xs ys : List ℕ) → Places js xs → length xs ≤ 256 → Places js ys → 256 < length ys → ⊥
  few_many xs ys a l b m = let e = ap length (one_list xs ys a b) in omega arith

  -- what is seated is not unseated
  seated_not : (xs ys : List ℕ) → Places js xs → Places js ys → (t : ℕ) → some (sits js t) xs ≡ true → some (sits js t) ys ≡ false → ⊥
  seated_not xs ys a b t s f = both_ways (some (sits js t) ys) f (sym (ap (some (sits js t)) (one_list xs ys a b)) ∙ s)

  -- jobs that can be drawn have few places, and no unseated step
  draws_few : (ws ys : List ℕ) → Draws js ws → Places js ys → 256 < length ys → ⊥
  draws_few ws ys a b m = few_many a.groups ys a.listed a.few b m

  draws_not : (ws ys : List ℕ) → Draws js ws → Places js ys → (t : ℕ) → LowestUnseated js ys t → ⊥
  draws_not ws ys a b t low = seated_not a.groups ys a.listed b t (a.seated t low.step low.loops) low.unseated

  one_lowest : (xs ys : List ℕ) → Places js xs → Places js ys → (t s : ℕ) → LowestUnseated js xs t → LowestUnseated js ys s → t ≡ s
  one_lowest xs ys a b t s p q = ⊎_elim (λ e. e) (⊎_elim
      (λ l. absurd (seated_not ys xs b a t (q.lowest t l p.loops) p.unseated))
      (λ l. absurd (seated_not xs ys a b s (p.lowest s l q.loops) q.unseated)))
      (cases_order t s)

  -- memory at whose start the words stand is not too short for them
  not_short : (old new ws vs : List ℕ) (n : ℕ) → Draws js ws → Draws js vs → n ≡ length ws → take n new ≡ ws → length new ≡ length old → length old < length vs → ⊥
  not_short old new ws vs n a b e f h l = let k = ap length f in let m = length-take n new in let v = ap length (one_net ws vs a b) in omega arith

-- a memory is its start and the rest
one_memory : (old new other ws vs : List ℕ) (n m : ℕ) → ws ≡ vs → n ≡ m → take n new ≡ ws → drop n new ≡ drop n old → take m other ≡ vs → drop m other ≡ drop m old → other ≡ new
one_memory old new other ws vs n m w e a b c d =
    sym (take-append-drop m other) ∙ ap (λ xs. xs ++ drop m other) (c ∙ sym w ∙ sym a) ∙ ap (λ ys. take n new ++ ys) (d ∙ ap (λ k. drop k old) (sym e) ∙ sym b) ∙ take-append-drop n new

module _ (steps len : ℕ) (js : Jobs) (old : List ℕ) where
  -- the first row at which two answers part is declined by one and passed by the other
  settled : (new other : List ℕ) (r s : Result ℕ DrawFault) → Drew steps len js old new r → Drew steps len js old other s → (other ≡ new) × (s ≡ r)
  settled new other (Ok n) (Ok m) p q =
      let (ws, a, e, f, g, h) = p.1 in
      let (vs, b, x, y, z, w) = q.1 in
      let same = one_net js ws vs a b in
      let count : n ≡ m = e ∙ ap length same ∙ sym x in
      (one_memory old new other ws vs n m same count f g y z, ap Ok (sym count))
  settled new other (Ok n) (Err (Void v)) p q = absurd (void_open steps len v q.0 p.0)
  settled new other (Ok n) (Err TooMany) p q = absurd (draws_few js p.1.0 q.1.0 p.1.1 q.1.1 q.1.2)
  settled new other (Ok n) (Err (Unseated t)) p q = absurd (draws_not js p.1.0 q.1.0 p.1.1 q.1.1 t q.1.3)
  settled new other (Ok n) (Err TooShort) p q = let (ws, a, e, f, g, h) = p.1 in absurd (not_short js old new ws q.1.0 n a q.1.1 e f h q.1.2)
  settled new other (Err (Void v)) (Ok m) p q = absurd (void_open steps len v p.0 q.0)
  settled new other (Err (Void v)) (Err (Void w)) p q = (q.1 ∙ sym p.1, ap (λ x. Err (Void x)) (void_same steps len w v q.0 p.0))
  settled new other (Err (Void v)) (Err TooMany) p q = absurd (void_open steps len v p.0 q.0)
  settled new other (Err (Void v)) (Err (Unseated t)) p q = absurd (void_open steps len v p.0 q.0)
  settled new other (Err (Void v)) (Err TooShort) p q = absurd (void_open steps len v p.0 q.0)
  settled new other (Err TooMany) (Ok m) p q = absurd (draws_few js q.1.0 p.1.0 q.1.1 p.1.1 p.1.2)
  settled new other (Err TooMany) (Err (Void v)) p q = absurd (void_open steps len v q.0 p.0)
  settled new other (Err TooMany) (Err TooMany) p q = (q.2 ∙ sym p.2, refl)
  settled new other (Err TooMany) (Err (Unseated t)) p q = absurd (few_many js q.1.0 p.1.0 q.1.1 q.1.2 p.1.1 p.1.2)
  settled new other (Err TooMany) (Err TooShort) p q = absurd (draws_few js q.1.0 p.1.0 q.1.1 p.1.1 p.1.2)
  settled new other (Err (Unseated t)) (Ok m) p q = absurd (draws_not js q.1.0 p.1.0 q.1.1 p.1.1 t p.1.3)
  settled new other (Err (Unseated t)) (Err (Void v)) p q = absurd (void_open steps len v q.0 p.0)
  settled new other (Err (Unseated t)) (Err TooMany) p q = absurd (few_many js p.1.0 q.1.0 p.1.1 p.1.2 q.1.1 q.1.2)
  settled new other (Err (Unseated t)) (Err (Unseated s)) p q = (q.2 ∙ sym p.2, ap (λ x. Err (Unseated x)) (one_lowest js q.1.0 p.1.0 q.1.1 p.1.1 s t q.1.3 p.1.3))
  settled new other (Err (Unseated t)) (Err TooShort) p q = absurd (draws_not js q.1.0 p.1.0 q.1.1 p.1.1 t p.1.3)
  settled new other (Err TooShort) (Ok m) p q = let (ws, a, e, f, g, h) = q.1 in absurd (not_short js old other ws p.1.0 m a p.1.1 e f h p.1.2)
  settled new other (Err TooShort) (Err (Void v)) p q = absurd (void_open steps len v q.0 p.0)
  settled new other (Err TooShort) (Err TooMany) p q = absurd (draws_few js p.1.0 q.1.0 p.1.1 q.1.1 q.1.2)
  settled new other (Err TooShort) (Err (Unseated t)) p q = absurd (draws_not js p.1.0 q.1.0 p.1.1 q.1.1 t q.1.3)
  settled new other (Err TooShort) (Err TooShort) p q = (q.2 ∙ sym p.2, refl)

  pub only_drew : (new : List ℕ) (r : Result ℕ DrawFault) → Drew steps len js old new r → OnlyDrew steps len js old new r
  unfolding OnlyDrew
  only_drew new r p other s q = settled new other r s p q
