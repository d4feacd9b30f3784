-- The points, marks and pairs of the place bond, told by steps, and that a place tells its set
use Rattle.std.proofs.Common.{◌≡◌, ℕ, ◌+◌, ◌-◌, ◌^◌, ◌<◌, Bool, true, false, cond, not, ◌&&◌, ltb, ◌⊎◌, sym, refl, ap, ◌∙◌, ap₂, inl, inr, ⊎_elim, arith}
use mathlib.Core.Bool.{and_comm}
use Rattle.std.proofs.lemmas.Bool.{cases_lt, both_ways, not-true, and_parts, and_from, lt-ltb, le-ltb, ltb-true}
use Rattle.groups.specs.Groups.{In}
use Rattle.groups.specs.Rows.{Lawful}
use Rattle.groups.proofs.Sets.{in_small, same_points}
use Rattle.flow.specs.Bits.{bit}
use Rattle.flow.specs.Flow.{Jobs, precedes, leads, unrelated, feeds}
use Rattle.flow.proofs.Bits.{bit_in, in_bit}
use Rattle.bonds.specs.Pairs.{place_points, place_pairs, feeder_mark, fed_mark}
use Rattle.net.specs.Net.{Place, place, every, steps}
use Rattle.facts.proofs.Steps.{every_step, those_tell}

-- ---- points

-- a point is a step as feeder, or as fed
abbrev pub Fed : ℕ → Type 0
Fed p = (b : ℕ) × (b < 32) × (p ≡ 32 + b)

pub side : (p : ℕ) → p < 64 → (p < 32) ⊎ Fed p
side p l = ⊎_elim inl (λ h. inr (p - 32, omega arith, omega arith)) (cases_lt p 32)

pub place_tells : (g h : ℕ) → g < 2 ^ 64 → h < 2 ^ 64 → place g ≡ place h → g ≡ h
place_tells g h l m e = same_points g h (into g h l e) (into h g m (sym e))
  where
    into : (g h : ℕ) → g < 2 ^ 64 → place g ≡ place h → (p : ℕ) → In g p → In h p
    into g h l e p i = ⊎_elim
        (λ b. bit_in h p (sym (those_tell (bit g) (bit h) (ap (λ (q : Place). q.feeders) e) p b) ∙ in_bit g p i))
        (λ s. let (b, k, d) = s in
        rw d (bit_in h (32 + b) (sym (those_tell (λ x. bit g (32 + x)) (λ x. bit h (32 + x)) (ap (λ (q : Place). q.fed) e) b k) ∙ in_bit g (32 + b) (rw d at i))))
        (side p (in_small 64 g p l i))

-- ---- marks

feeder_bits : every (bit feeder_mark) steps ≡ true
unfolding bit
feeder_bits = refl

fed_bits : every (λ s. bit fed_mark (32 + s)) steps ≡ true
unfolding bit
fed_bits = refl

fed_lacks : every (λ s. not (bit fed_mark s)) steps ≡ true
unfolding bit
fed_lacks = refl

pub feeder_marked : (a : ℕ) → a < 32 → In feeder_mark a
feeder_marked a l = bit_in feeder_mark a (every_step (bit feeder_mark) feeder_bits a l)

pub marked_feeder : (p : ℕ) → In feeder_mark p → p < 32
marked_feeder p i = in_small 32 feeder_mark p (omega arith) i

pub fed_marked : (b : ℕ) → b < 32 → In fed_mark (32 + b)
fed_marked b l = bit_in fed_mark (32 + b) (every_step (λ s. bit fed_mark (32 + s)) fed_bits b l)

pub marked_fed : (p : ℕ) → In fed_mark p → Fed p
marked_fed p i =
    ⊎_elim (λ l. absurd (both_ways (bit fed_mark p) (not-true (bit fed_mark p) (every_step (λ s. not (bit fed_mark s)) fed_lacks p l)) (in_bit fed_mark p i)))
    (λ s. s) (side p (in_small 64 fed_mark p (omega arith) i))

-- ---- pairs

module _ (un le : ℕ → ℕ → Bool) where
  inside : (p q : ℕ) → p < 64 → q < 64 → place_points un le p q ≡ cond (ltb p 32) (cond (ltb q 32) (un p q) (le p (q - 32))) (cond (ltb q 32) (le q (p - 32)) (un (p - 32) (q - 32)))
  inside p q l m = simp (lt-ltb p 64 l, lt-ltb q 64 m)

  points_feeders : (a b : ℕ) → a < 32 → b < 32 → place_points un le a b ≡ un a b
  points_feeders a b l m = inside a b (omega arith) (omega arith) ∙ simp (lt-ltb a 32 l, lt-ltb b 32 m)

  points_across : (a b : ℕ) → a < 32 → b < 32 → place_points un le a (32 + b) ≡ le a b
  points_across a b l m =
      let e : (32 + b) - 32 ≡ b = omega arith in
      inside a (32 + b) (omega arith) (omega arith) ∙ simp (lt-ltb a 32 l, le-ltb (32 + b) 32 (omega arith), e)

  points_fed : (a b : ℕ) → a < 32 → b < 32 → place_points un le (32 + a) (32 + b) ≡ un a b
  points_fed a b l m =
      let d : (32 + a) - 32 ≡ a = omega arith in
      let e : (32 + b) - 32 ≡ b = omega arith in
      inside (32 + a) (32 + b) (omega arith) (omega arith) ∙ simp (le-ltb (32 + a) 32 (omega arith), le-ltb (32 + b) 32 (omega arith), d, e)

  points_even : ((a b : ℕ) → un a b ≡ un b a) → (p q : ℕ) → place_points un le p q ≡ place_points un le q p
  points_even even p q =
      ap₂ (λ x y. x && y) (and_comm (ltb p 64) (ltb q 64))
      (turned (ltb p 32) (ltb q 32) (le p (q - 32)) (le q (p - 32)) (even p q) (even (p - 32) (q - 32)))
    where
      turned : (a b l m : Bool) {u u' v v' : Bool} → u ≡ u' → v ≡ v' → cond a (cond b u l) (cond b m v) ≡ cond b (cond a u' m) (cond a l v')
      turned true true l m d e = d
      turned true false l m d e = refl
      turned false true l m d e = refl
      turned false false l m d e = e

module _ (js : Jobs) where
  pub lawful : Lawful (place_pairs js)
  unfolding place_pairs
  lawful = record {
    even = points_even (unrelated js) (leads js) (λ a b. and_comm (not (precedes js a b)) (not (precedes js b a)));
    below = λ p q e. ltb-true p 64 (and_parts (ltb p 64) (ltb q 64) (and_parts (ltb p 64 && ltb q 64) _ e).0).0;
  }

  pub pairs_feeders : (a b : ℕ) → a < 32 → b < 32 → place_pairs js a b ≡ unrelated js a b
  unfolding place_pairs
  pairs_feeders = points_feeders (unrelated js) (leads js)

  pub pairs_across : (a b : ℕ) → a < 32 → b < 32 → place_pairs js a (32 + b) ≡ leads js a b
  unfolding place_pairs
  pairs_across = points_across (unrelated js) (leads js)

  pub pairs_fed : (a b : ℕ) → a < 32 → b < 32 → place_pairs js (32 + a) (32 + b) ≡ unrelated js a b
  unfolding place_pairs
  pairs_fed = points_fed (unrelated js) (leads js)

  -- what feeding says: both steps are unrelated to themselves, and the one leads to the other
  pub feeds_parts : (a b : ℕ) → feeds js a b ≡ true → (unrelated js a a ≡ true) × (unrelated js b b ≡ true) × (leads js a b ≡ true)
  feeds_parts a b f =
      let (l, n) = and_parts (leads js a b) _ f in
      let (x, y) = and_parts (not (precedes js a a)) (not (precedes js b b)) n in
      (and_from _ _ x x, and_from _ _ y y, l)

  pub feeds_from : (a b : ℕ) → unrelated js a a ≡ true → unrelated js b b ≡ true → leads js a b ≡ true → feeds js a b ≡ true
  feeds_from a b x y l = and_from _ _ l (and_from _ _ (and_parts (not (precedes js a a)) _ x).0 (and_parts (not (precedes js b b)) _ y).0)
