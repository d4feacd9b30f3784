-- A listing is checked by computing, over the sets of the few points that a listed group can have
use Rattle.std.proofs.Common.{◌≡◌, ℕ, zero, suc, ◌+◌, ◌*◌, ◌/◌, ◌%◌, ◌^◌, ◌<◌, Bool, true, false, cond, not, ◌&&◌, ◌||◌, eqb, ltb, ◌⊎◌, List, [], ◌∷◌, length, get_or, Decides, sym, refl, ap, ◌∙◌, subst, inl, inr, pow-suc, arith}
use lib.Bits.{bit_and, bit_or}
use lib.Count.{ones, ones_in, ones_step}
use Rattle.std.specs.List.{range_with_len}
use Rattle.std.proofs.lemmas.List.FromFn.{length-range_with_len, get_or-range_with_len}
use Rattle.std.proofs.lemmas.Bool.{both_ways, cases_Bool, and_parts, and_from, or_cases, or_left, or_right, cond-true, cond-false, ltb-true, eqb-true, eqb-false, eq-eqb, ne_eqb, not-true, not_from_false}
use Rattle.groups.specs.Groups.{In, Paired, Fits, Touches, Listed}
use Rattle.groups.specs.Listings.{Before, Listing}
use Rattle.groups.proofs.Sets.{in_or_l, in_or_r, or_in, in_one, one_in, empty, same_points, touches, apart}
use Rattle.flow.specs.Bits.{bit}
use Rattle.flow.specs.Flow.{some, has}
use Rattle.flow.proofs.Bits.{bit_in, in_bit, alike}
use Rattle.flow.proofs.MeansJob.{some_means}
use Rattle.net.specs.Net.{every, same}

-- ---- lists by places

module _ {X : Type 0} (t : X → Bool) (d : X) where
  pub every_at : (xs : List X) → every t xs ≡ true → (i : ℕ) → i < length xs → t (get_or xs i d) ≡ true
  every_at [] e i l = absurd (omega arith)
  every_at (x ∷ xs) e zero l = (and_parts (t x) (every t xs) e).0
  every_at (x ∷ xs) e (suc i) l = every_at xs (and_parts (t x) (every t xs) e).1 i (omega arith)

  pub every_from : (xs : List X) → ((i : ℕ) → i < length xs → t (get_or xs i d) ≡ true) → every t xs ≡ true
  every_from [] f = refl
  every_from (x ∷ xs) f = and_from (t x) (every t xs) (f 0 (omega arith)) (every_from xs (λ i l. f (suc i) (omega arith)))

has_means : (x : ℕ) (xs : List ℕ) → Decides (has x xs) ((i : ℕ) × ((i < length xs) × (get_or xs i 0 ≡ x)))
has_means x xs = some_means (λ y. eqb y x) (λ y. y ≡ x) 0 (λ y. (eqb-true y x, eq-eqb y x)) xs

pub every_below : (n : ℕ) (t : ℕ → Bool) → every t (range_with_len 0 n) ≡ true → (x : ℕ) → x < n → t x ≡ true
every_below n t e x l =
    let s = length-range_with_len 0 n in
    subst (λ v. t v ≡ true) (get_or-range_with_len 0 n x 0 l ∙ omega arith) (every_at t 0 (range_with_len 0 n) e x (omega arith))

some_below : (n : ℕ) (t : ℕ → Bool) (x : ℕ) → x < n → t x ≡ true → some t (range_with_len 0 n) ≡ true
some_below n t x l e =
    let s = length-range_with_len 0 n in
    let at : x ≡ get_or (range_with_len 0 n) x 0 = sym (get_or-range_with_len 0 n x 0 l ∙ omega arith) in
    (some_means t (λ y. t y ≡ true) 0 (λ y. ((λ h. h), λ h. h)) (range_with_len 0 n)).1 (x, (omega arith, subst (λ v. t v ≡ true) at e))

every_has : (t : ℕ → Bool) (xs : List ℕ) (x : ℕ) → every t xs ≡ true → has x xs ≡ true → t x ≡ true
every_has t xs x e h =
    let (i, (l, is)) = (has_means x xs).0 h in
    subst (λ v. t v ≡ true) is (every_at t 0 xs e i l)

same_true : (x y : Bool) → same x y ≡ true → x ≡ y
same_true true y e = sym e
same_true false true e = e
same_true false false e = refl

true_same : (x y : Bool) → x ≡ y → same x y ≡ true
true_same true y e = sym e
true_same false y e = ap not (sym e)

-- ---- sets of a few points

-- the points of h among ps, with those of g
abbrev gathered : ℕ → List ℕ → ℕ → ℕ
gathered h [] g = g
gathered h (p ∷ ps) g = gathered h ps (cond (bit h p) (bit_or g (2 ^ p)) g)

-- the set g, with whichever points of ps, passes the test
abbrev each_set : (ℕ → Bool) → List ℕ → ℕ → Bool
each_set t [] g = t g
each_set t (p ∷ ps) g = each_set t ps g && each_set t ps (bit_or g (2 ^ p))

set_passes : (t : ℕ → Bool) (h : ℕ) (ps : List ℕ) (g : ℕ) → each_set t ps g ≡ true → t (gathered h ps g) ≡ true
set_passes t h [] g e = e
set_passes t h (p ∷ ps) g e =
    let (out, in-it) = and_parts (each_set t ps g) (each_set t ps (bit_or g (2 ^ p))) e in
    elim (cases_Bool (bit h p)) [
      | inl b ↦ subst (λ x. t (gathered h ps x) ≡ true) (sym (cond-true (bit h p) (bit_or g (2 ^ p)) g b)) (set_passes t h ps (bit_or g (2 ^ p)) in-it)
      | inr b ↦ subst (λ x. t (gathered h ps x) ≡ true) (sym (cond-false (bit h p) (bit_or g (2 ^ p)) g b)) (set_passes t h ps g out)
    ]

gathered_in : (h : ℕ) (ps : List ℕ) (g q : ℕ) → In (gathered h ps g) q → In g q ⊎ (In h q × (has q ps ≡ true))
gathered_in h [] g q i = inl i
gathered_in h (p ∷ ps) g q i =
    elim (gathered_in h ps (cond (bit h p) (bit_or g (2 ^ p)) g) q i) [
      | inl j ↦
          elim (cases_Bool (bit h p)) [
            | inl b ↦
                elim (or_in g (2 ^ p) q (subst (λ x. In x q) (cond-true (bit h p) (bit_or g (2 ^ p)) g b) j)) [
                  | inl k ↦ inl k
                  | inr k ↦ let e = one_in p q k in inr (subst (In h) e (bit_in h p b), or_left (eqb p q) (has q ps) (eq-eqb p q e))
                ]
            | inr b ↦ inl (subst (λ x. In x q) (cond-false (bit h p) (bit_or g (2 ^ p)) g b) j)
          ]
      | inr j ↦ inr (j.0, or_right (eqb p q) (has q ps) j.1)
    ]

in_gathered : (h : ℕ) (ps : List ℕ) (g q : ℕ) → In g q ⊎ (In h q × (has q ps ≡ true)) → In (gathered h ps g) q
in_gathered h [] g q (inl i) = i
in_gathered h [] g q (inr i) = absurd (both_ways false refl i.1)
in_gathered h (p ∷ ps) g q (inl i) =
    in_gathered h ps (cond (bit h p) (bit_or g (2 ^ p)) g) q (inl
    (elim (cases_Bool (bit h p)) [
      | inl b ↦ subst (λ x. In x q) (sym (cond-true (bit h p) (bit_or g (2 ^ p)) g b)) (in_or_l g (2 ^ p) q i)
      | inr b ↦ subst (λ x. In x q) (sym (cond-false (bit h p) (bit_or g (2 ^ p)) g b)) i
    ]))
in_gathered h (p ∷ ps) g q (inr i) =
    in_gathered h ps (cond (bit h p) (bit_or g (2 ^ p)) g) q
    (elim (or_cases (eqb p q) (has q ps) i.1) [
      | inl b ↦
          let e = eqb-true p q b in
          inl (subst (λ x. In x q) (sym (cond-true (bit h p) (bit_or g (2 ^ p)) g (in_bit h p (subst (In h) (sym e) i.0)))) (in_or_r g (2 ^ p) q (subst (In (2 ^ p)) e (in_one p))))
      | inr m ↦ inr (i.0, m)
    ])

-- ---- the order

ones_in_lem : (n g : ℕ) → g < 2 ^ n → ones_in n g ≡ ones g
unfolding ones ones_in
ones_in_lem zero g l = let z : g ≡ 0 = omega arith in sym (ap ones z)
ones_in_lem (suc n) g l =
    let l' : g < 2 ^ n * 2 = rw pow-suc at l in
    ap (λ m. g % 2 + m) (ones_in_lem n (g / 2) (omega arith)) ∙ sym (ones_step g)

abbrev size : ℕ → ℕ
size g = ones_in 64 g

abbrev before? : ℕ → ℕ → Bool
before? g h = ltb (size g) (size h) || (eqb (size g) (size h) && ltb g h)

before_from : (g h : ℕ) → g < 2 ^ 64 → h < 2 ^ 64 → before? g h ≡ true → Before g h
before_from g h l k e =
    let a = ones_in_lem 64 g l in
    let b = ones_in_lem 64 h k in
    elim (or_cases (ltb (size g) (size h)) (eqb (size g) (size h) && ltb g h) e) [
      | inl t ↦ let s = ltb-true (size g) (size h) t in inl (omega arith)
      | inr t ↦
          let (u, v) = and_parts (eqb (size g) (size h)) (ltb g h) t in
          inr (sym a ∙ eqb-true (size g) (size h) u ∙ b, ltb-true g h v)
    ]

abbrev rising? : List ℕ → Bool
rising? [] = true
rising? (g ∷ gs) = every (before? g) gs && rising? gs

rising_at : (gs : List ℕ) → rising? gs ≡ true → (i j : ℕ) → i < j → j < length gs → before? (get_or gs i 0) (get_or gs j 0) ≡ true
rising_at [] e i j l k = absurd (omega arith)
rising_at (g ∷ gs) e i zero l k = absurd (omega arith)
rising_at (g ∷ gs) e zero (suc j) l k = every_at (before? g) 0 gs (and_parts (every (before? g) gs) (rising? gs) e).0 j (omega arith)
rising_at (g ∷ gs) e (suc i) (suc j) l k = rising_at gs (and_parts (every (before? g) gs) (rising? gs) e).1 i j (omega arith) (omega arith)

-- ---- the check

abbrev touches? : ℕ → ℕ → Bool
touches? a b = not (eqb (bit_and a b) 0)

touches_from : (a b : ℕ) → touches? a b ≡ true → Touches a b
touches_from a b e = touches a b (eqb-false (bit_and a b) 0 (not-true _ e))

touches_to : (a b : ℕ) → Touches a b → touches? a b ≡ true
touches_to a b t = not_from_false _ (ne_eqb (bit_and a b) 0 (λ z. apart a b z t))

module _ (pairs : ℕ → ℕ → Bool) (first second : ℕ) where
  -- x is paired with itself, and with a point of each mark that is paired with itself
  abbrev joins : ℕ → ℕ → ℕ → Bool
  joins mark x q = bit mark q && (pairs q q && pairs q x)

  abbrev at_work : ℕ → Bool
  at_work x = pairs x x && (some (joins first x) (range_with_len 0 64) && some (joins second x) (range_with_len 0 64))

  abbrev fits? : List ℕ → ℕ → ℕ → Bool
  fits? ps g x = pairs x x && every (λ q. not (bit g q) || pairs q x) ps

  -- g touches both marks, and has those of the points ps that fit it
  abbrev listed? : List ℕ → ℕ → Bool
  listed? ps g = (touches? g first && touches? g second) && every (λ x. same (bit g x) (fits? ps g x)) ps

  -- ps has the points at work, and gs has those sets of ps that are listed
  abbrev pub listing? : List ℕ → List ℕ → Bool
  listing? ps gs =
      (every (λ x. not (at_work x) || has x ps) (range_with_len 0 64) && rising? gs)
      && (every (λ g. eqb (gathered g ps 0) g && (ltb g (2 ^ 64) && listed? ps g)) gs && each_set (λ g. not (listed? ps g) || has g gs) ps 0)

  module _ (below : (p q : ℕ) → pairs p q ≡ true → p < 64) (ps : List ℕ) (covers : every (λ x. not (at_work x) || has x ps) (range_with_len 0 64) ≡ true) where
    -- what fits a group that touches both marks is at work
    few : (g x : ℕ) → Paired pairs g → Touches g first → Touches g second → Fits pairs g x → has x ps ≡ true
    few g x paired (a, ga, fa) (b, gb, sb) (xx, gx) =
        let joined : (mark q : ℕ) → In g q → In mark q → some (joins mark x) (range_with_len 0 64) ≡ true =
        λ mark q i m. some_below 64 (joins mark x) q (below q q (paired q q i i)) (and_from _ _ (in_bit mark q m) (and_from _ _ (paired q q i i) (gx q i))) in
        elim (or_cases (not (at_work x)) (has x ps) (every_below 64 (λ x. not (at_work x) || has x ps) covers x (below x x xx))) [
          | inl n ↦ absurd (both_ways (at_work x) (not-true _ n) (and_from _ _ xx (and_from _ _ (joined first a ga fa) (joined second b gb sb))))
          | inr h ↦ h
        ]

    fits_to : (g x : ℕ) → Fits pairs g x → fits? ps g x ≡ true
    fits_to g x (xx, gx) =
        and_from _ _ xx (every_from (λ q. not (bit g q) || pairs q x) 0 ps (λ i l.
        elim (cases_Bool (bit g (get_or ps i 0))) [
          | inl b ↦ or_right _ _ (gx (get_or ps i 0) (bit_in g _ b))
          | inr b ↦ or_left _ _ (not_from_false _ b)
        ]))

    fits_from : (g x : ℕ) → ((q : ℕ) → In g q → has q ps ≡ true) → fits? ps g x ≡ true → Fits pairs g x
    fits_from g x inside e =
        let (xx, all) = and_parts (pairs x x) (every (λ q. not (bit g q) || pairs q x) ps) e in (
          xx,
          λ q i.
              elim (or_cases (not (bit g q)) (pairs q x) (every_has (λ q. not (bit g q) || pairs q x) ps q all (inside q i))) [
                | inl n ↦ absurd (both_ways (bit g q) (not-true _ n) (in_bit g q i))
                | inr p ↦ p
              ],
        )

    listed_from : (g : ℕ) → ((q : ℕ) → In g q → has q ps ≡ true) → listed? ps g ≡ true → Listed pairs first second g
    listed_from g inside e =
        let (marks, all) = and_parts (touches? g first && touches? g second) (every (λ x. same (bit g x) (fits? ps g x)) ps) e in
        let (one, two) = and_parts (touches? g first) (touches? g second) marks in
        let t = touches_from g first one in
        let u = touches_from g second two in
        let is : (x : ℕ) → has x ps ≡ true → bit g x ≡ fits? ps g x = λ x h. same_true _ _ (every_has (λ x. same (bit g x) (fits? ps g x)) ps x all h) in
        let paired : Paired pairs g = λ p q i j. (fits_from g q inside (sym (is q (inside q j)) ∙ in_bit g q j)).1 p i in
        record {
          largest = record { some = (t.0, t.1); paired = paired; full = λ x f. bit_in g x (is x (few g x paired t u f) ∙ fits_to g x f) };
          one = t;
          two = u;
        }

    inside_of : (g : ℕ) → Listed pairs first second g → (q : ℕ) → In g q → has q ps ≡ true
    inside_of g u q i = let p = u.largest.paired in few g q p u.one u.two (p q q i i, λ r j. p r q j i)

    listed_to : (g : ℕ) → Listed pairs first second g → listed? ps g ≡ true
    listed_to g u =
        let p = u.largest.paired in
        and_from _ _ (and_from _ _ (touches_to g first u.one) (touches_to g second u.two))
        (every_from (λ x. same (bit g x) (fits? ps g x)) 0 ps (λ i l.
        let x = get_or ps i 0 in
        true_same (bit g x) (fits? ps g x) (alike (bit g x) (fits? ps g x)
        (λ b. let j = bit_in g x b in fits_to g x (p x x j j, λ r k. p r x k j))
        (λ f. in_bit g x (u.largest.full x (fits_from g x (inside_of g u) f))))))

  pub listing_checked : ((p q : ℕ) → pairs p q ≡ true → p < 64) → (ps gs : List ℕ) → listing? ps gs ≡ true → Listing pairs first second gs
  listing_checked below ps gs e =
      let (front, back) = and_parts (every (λ x. not (at_work x) || has x ps) (range_with_len 0 64) && rising? gs) _ e in
      let (covers, rising) = and_parts (every (λ x. not (at_work x) || has x ps) (range_with_len 0 64)) (rising? gs) front in
      let (each, all) = and_parts (every (λ g. eqb (gathered g ps 0) g && (ltb g (2 ^ 64) && listed? ps g)) gs) _ back in
      let at : (i : ℕ) → i < length gs → (gathered (get_or gs i 0) ps 0 ≡ get_or gs i 0) × (get_or gs i 0 < 2 ^ 64) × (listed? ps (get_or gs i 0) ≡ true) = λ i l.
      let g = get_or gs i 0 in
      let (a, b) = and_parts (eqb (gathered g ps 0) g) (ltb g (2 ^ 64) && listed? ps g) (every_at (λ g. eqb (gathered g ps 0) g && (ltb g (2 ^ 64) && listed? ps g)) 0 gs each i l) in
      let (c, d) = and_parts (ltb g (2 ^ 64)) (listed? ps g) b in
      (eqb-true _ g a, ltb-true g (2 ^ 64) c, d) in
      record {
        ascends = λ i j l k. before_from (get_or gs i 0) (get_or gs j 0) (at i (omega arith)).1 (at j k).1 (rising_at gs rising i j l k);
        sound = λ i l.
            let (whole, low, is) = at i l in
            let g = get_or gs i 0 in
            listed_from below ps covers g (λ q j. elim (gathered_in g ps 0 q (subst (λ x. In x q) (sym whole) j)) [ inl k ↦ absurd (empty q k) | inr k ↦ k.1 ]) is;
        whole = λ g u.
            let inside = inside_of below ps covers g u in
            let is : gathered g ps 0 ≡ g = same_points _ g
            (λ q i. elim (gathered_in g ps 0 q i) [ inl k ↦ absurd (empty q k) | inr k ↦ k.0 ])
            (λ q i. in_gathered g ps 0 q (inr (i, inside q i))) in
            elim (or_cases (not (listed? ps g)) (has g gs) (subst (λ x. (not (listed? ps x) || has x gs) ≡ true) is (set_passes (λ g. not (listed? ps g) || has g gs) g ps 0 all))) [
              | inl n ↦ absurd (both_ways (listed? ps g) (not-true _ n) (listed_to below ps covers g u))
              | inr h ↦ let (i, (l, is-it)) = (has_means g gs).0 h in (i, l, is-it)
            ];
      }
