-- The groups of the place bond that touch both marks are the same for two lists of jobs exactly when the jobs agree on which step feeds which, and on akin steps
use Rattle.std.proofs.Common.{◌≡◌, ℕ, ◌+◌, ◌^◌, ◌<◌, true, ◌⊎◌, sym, ◌∙◌, inl, inr, ⊎_elim}
use lib.Bits.{bit_or}
use Rattle.std.proofs.lemmas.Bool.{cases_eq}
use Rattle.groups.specs.Groups.{In, Paired, Fits}
use Rattle.groups.proofs.Sets.{in_or_l, in_one, one_in}
use Rattle.flow.specs.Flow.{Jobs, unrelated, leads, feeds}
use Rattle.flow.specs.Facts.{SameFeeds, SameKin, Akin}
use Rattle.flow.proofs.Bits.{alike}
use Rattle.bonds.specs.Pairs.{place_pairs, feeder_mark, fed_mark}
use Rattle.facts.specs.Compared.{Common}
use Rattle.facts.proofs.Listings.{Moves, or_one, has_one, with_point}
use Rattle.facts.proofs.PlaceGroups.{Fed, side, feeder_marked, marked_feeder, fed_marked, marked_fed, lawful, pairs_feeders, pairs_across, pairs_fed, feeds_parts, feeds_from}

-- the groups of the place bond of js that touch both marks are groups of that of ks
abbrev pub PlacesMove : Jobs → Jobs → Type 0
PlacesMove js ks = Moves feeder_mark fed_mark (place_pairs js) (place_pairs ks)

-- ---- what a group says

module _ (js : Jobs) (g : ℕ) (paired : Paired (place_pairs js) g) where
  pub group_feeders : (a b : ℕ) → a < 32 → b < 32 → In g a → In g b → unrelated js a b ≡ true
  group_feeders a b l m i j = sym (pairs_feeders js a b l m) ∙ paired a b i j

  pub group_fed : (a b : ℕ) → a < 32 → b < 32 → In g (32 + a) → In g (32 + b) → unrelated js a b ≡ true
  group_fed a b l m i j = sym (pairs_fed js a b l m) ∙ paired (32 + a) (32 + b) i j

  pub group_feeds : (a b : ℕ) → a < 32 → b < 32 → In g a → In g (32 + b) → feeds js a b ≡ true
  group_feeds a b l m i j = feeds_from js a b (group_feeders a a l l i i) (group_fed b b m m j j) (sym (pairs_across js a b l m) ∙ paired a (32 + b) i j)

-- ---- from the facts

module _ (js ks : Jobs) (feed : SameFeeds js ks) (kin : SameKin js ks) where
  common_moves : (a b c : ℕ) → a < 32 → b < 32 → c < 32 → Common (feeds js) a b c → Common (feeds ks) a b c
  common_moves a b c l m n (inl (x, y)) = inl (sym (feed a c l n) ∙ x, sym (feed b c m n) ∙ y)
  common_moves a b c l m n (inr (x, y)) = inr (sym (feed c a n l) ∙ x, sym (feed c b n m) ∙ y)

  self : (a b c : ℕ) → Common (feeds ks) a b c → unrelated ks a a ≡ true
  self a b c (inl (x, _)) = (feeds_parts ks a c x).0
  self a b c (inr (x, _)) = (feeds_parts ks c a x).1

  unrelated_moves : (a b c : ℕ) → a < 32 → b < 32 → c < 32 → Common (feeds js) a b c → unrelated js a b ≡ true → unrelated ks a b ≡ true
  unrelated_moves a b c l m n d u =
      let d' = common_moves a b c l m n d in
      ⊎_elim (λ e. rw (← e) (self a b c d')) (λ e. sym (kin a b l m (e, (c, n, d)) (e, (c, n, d'))) ∙ u) (cases_eq a b)

  pub facts_move : PlacesMove js ks
  facts_move g (x, xi, xm) (y, yi, ym) h p q i j =
      let (z, zl, ze) = marked_fed y ym in
      both x (marked_feeder x xm) xi z zl (rw ze at yi) p q (side p ((lawful js).below p p (h p p i i))) (side q ((lawful js).below q q (h q q j j))) i j
    where
      both : (x : ℕ) → x < 32 → In g x → (z : ℕ) → z < 32 → In g (32 + z)
          → (p q : ℕ) → (p < 32) ⊎ Fed p → (q < 32) ⊎ Fed q → In g p → In g q → place_pairs ks p q ≡ true
      both x xl xi z zl zi p q (inl l) (inl m) i j =
          pairs_feeders ks p q l m ∙ unrelated_moves p q z l m zl (inl (group_feeds js g h p z l zl i zi, group_feeds js g h q z m zl j zi)) (group_feeders js g h p q l m i j)
      both x xl xi z zl zi p q (inl l) (inr (b, m, e)) i j =
          rw e (pairs_across ks p b l m ∙ (feeds_parts ks p b (sym (feed p b l m) ∙ group_feeds js g h p b l m i (rw e at j))).2)
      both x xl xi z zl zi p q (inr (a, l, d)) (inl m) i j =
          (lawful ks).even p q ∙ rw d (pairs_across ks q a m l ∙ (feeds_parts ks q a (sym (feed q a m l) ∙ group_feeds js g h q a m l j (rw d at i))).2)
      both x xl xi z zl zi p q (inr (a, l, d)) (inr (b, m, e)) i j =
          let i' = rw d at i in
          let j' = rw e at j in
          rw d (rw e (pairs_fed ks a b l m ∙ unrelated_moves a b x l m xl (inr (group_feeds js g h x a xl l xi i', group_feeds js g h x b xl m xi j')) (group_fed js g h a b l m i' j')))

-- ---- to the facts

-- the set of a as feeder and b as fed
abbrev edge : ℕ → ℕ → ℕ
edge a b = bit_or (2 ^ a) (2 ^ (32 + b))

edge_feeder : (a b : ℕ) → In (edge a b) a
edge_feeder a b = in_or_l (2 ^ a) (2 ^ (32 + b)) a (in_one a)

module _ (js : Jobs) (a b : ℕ) (l : a < 32) (m : b < 32) (f : feeds js a b ≡ true) where
  abbrev parts : (unrelated js a a ≡ true) × (unrelated js b b ≡ true) × (leads js a b ≡ true)
  parts = feeds_parts js a b f

  feeder_self : place_pairs js a a ≡ true
  feeder_self = pairs_feeders js a a l l ∙ parts.0

  fed_self : place_pairs js (32 + b) (32 + b) ≡ true
  fed_self = pairs_fed js b b m m ∙ parts.1

  across : place_pairs js a (32 + b) ≡ true
  across = pairs_across js a b l m ∙ parts.2

  edge_paired : Paired (place_pairs js) (edge a b)
  edge_paired = with_point (place_pairs js) (lawful js) (2 ^ a) (32 + b) (λ p q i j. rw (← one_in a p i) (rw (← one_in a q j) feeder_self)) (fed_self, λ p i. rw (← one_in a p i) across)

  -- a point that is paired with itself and with both
  edge_fits : (x : ℕ) → place_pairs js x x ≡ true → place_pairs js a x ≡ true → place_pairs js (32 + b) x ≡ true → Fits (place_pairs js) (edge a b) x
  edge_fits x s t u = (s, λ p i. ⊎_elim (λ o. rw (← one_in a p o) t) (λ e. rw (← e) u) (or_one (2 ^ a) (32 + b) p i))

module _ (js ks : Jobs) (move : PlacesMove js ks) where
  feeds_moves : (a b : ℕ) → a < 32 → b < 32 → feeds js a b ≡ true → feeds ks a b ≡ true
  feeds_moves a b l m f =
      let i = edge_feeder a b in
      let j = has_one (2 ^ a) (32 + b) in
      group_feeds ks (edge a b) (move (edge a b) (a, i, feeder_marked a l) (32 + b, j, fed_marked b m) (edge_paired js a b l m f)) a b l m i j

  -- a feeds b, and x fits them: it is paired with both in the other bond too
  third_moves : (a b x : ℕ) → a < 32 → b < 32 → (f : feeds js a b ≡ true) → Fits (place_pairs js) (edge a b) x → (p : ℕ) → In (edge a b) p → place_pairs ks p x ≡ true
  third_moves a b x l m f t p i =
      let g = bit_or (edge a b) (2 ^ x) in
      let more : (q : ℕ) → In (edge a b) q → In g q = in_or_l (edge a b) (2 ^ x) in
      move g (a, more a (edge_feeder a b), feeder_marked a l) (32 + b, more (32 + b) (has_one (2 ^ a) (32 + b)), fed_marked b m)
      (with_point (place_pairs js) (lawful js) (edge a b) x (edge_paired js a b l m f) t) p x (more p i) (has_one (edge a b) x)

  akin_moves : (a b : ℕ) → a < 32 → b < 32 → Akin js a b → unrelated js a b ≡ true → unrelated ks a b ≡ true
  akin_moves a b l m (_, (c, n, d)) u = ⊎_elim
      (λ f. let (x, y) = f in
      sym (pairs_feeders ks a b l m)
      ∙ third_moves a c b l n x (edge_fits js a c l n x b (feeder_self js b c m n y) (pairs_feeders js a b l m ∙ u) ((lawful js).even (32 + c) b ∙ across js b c m n y)) a (edge_feeder a c))
      (λ f. let (x, y) = f in
      sym (pairs_fed ks a b l m)
      ∙ third_moves c a (32 + b) n l x (edge_fits js c a n l x (32 + b) (fed_self js c b n m y) (across js c b n m y) (pairs_fed js a b l m ∙ u)) (32 + a) (has_one (2 ^ c) (32 + a)))
      d

module _ (js ks : Jobs) (there : PlacesMove js ks) (back : PlacesMove ks js) where
  pub moves_feeds : SameFeeds js ks
  moves_feeds a b l m = alike (feeds js a b) (feeds ks a b) (feeds_moves js ks there a b l m) (feeds_moves ks js back a b l m)

  pub moves_kin : SameKin js ks
  moves_kin a b l m j k = alike (unrelated js a b) (unrelated ks a b) (akin_moves js ks there a b l m j) (akin_moves ks js back a b l m k)
