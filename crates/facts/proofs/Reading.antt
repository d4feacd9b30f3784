-- The words of a net tell the net
use Rattle.std.proofs.Common.{◌≡◌, ℕ, ◌+◌, ◌/◌, ◌^◌, ◌<◌, ◌≤◌, List, [], ◌∷◌, ◌++◌, map, length, sym, refl, ◌∙◌, subst, ap₂, append_assoc, arith}
use lib.Pow.{high}
use Rattle.std.specs.List.{AllByRecursion as All}
use Rattle.net.specs.Net.{Net, Place, word, words, places_words, loop_word}

abbrev pub Short : ℕ → Type 0
Short x = x < 2 ^ 28

abbrev pub Neat : Place → Type 0
Neat p = All Short p.feeders × All Short p.fed

abbrev pub Loop : ℕ × ℕ → Type 0
Loop l = (l.0 < 2 ^ 8) × (l.1 < 2 ^ 20)

-- each number of the net fits its word
pub record Tidy (n : Net) : Type 0 where
  pub seen_short : All Short n.seen_steps
  pub first_short : All Short n.first_steps
  pub last_short : All Short n.last_steps
  pub places_neat : All Neat n.places
  pub places_few : length n.places ≤ 256
  pub loops_short : All Loop n.loops

-- the words do not begin with one of kind k
abbrev Free : ℕ → List ℕ → Type 0
Free k [] = Unit {0}
Free k (w ∷ ws) = w / 2 ^ 28 ≡ k → ⊥

free_append : (k : ℕ) (xs ys : List ℕ) → Free k xs → Free k ys → Free k (xs ++ ys)
free_append k [] ys f g = g
free_append k (x ∷ xs) ys f g = f

-- a front of words of one kind, which tell what they are made from
record Kind {X : Type 0} (k : ℕ) (P : X → Type 0) (f : X → ℕ) : Type 0 where
  is : (x : X) → P x → f x / 2 ^ 28 ≡ k
  tells : (x y : X) → P x → P y → f x ≡ f y → x ≡ y

module _ {X : Type 0} {k : ℕ} {P : X → Type 0} {f : X → ℕ} (kind : Kind k P f) where
  free_map : (j : ℕ) → (k ≡ j → ⊥) → (xs : List X) → All P xs → Free j (map f xs)
  free_map j n [] a = tt
  free_map j n (x ∷ xs) a = λ e. n (sym (kind.is x a.0) ∙ e)

  split : (xs ys : List X) (ws vs : List ℕ) → All P xs → All P ys → Free k ws → Free k vs → map f xs ++ ws ≡ map f ys ++ vs → (xs ≡ ys) × (ws ≡ vs)
  split [] [] ws vs a b h j e = (refl, e)
  split [] (y ∷ ys) ws vs a b h j e = absurd (subst (Free k) e h (kind.is y b.0))
  split (x ∷ xs) [] ws vs a b h j e = absurd (subst (Free k) (sym e) j (kind.is x a.0))
  split (x ∷ xs) (y ∷ ys) ws vs a b h j e =
      let d : f x ≡ f y = cc in
      let t : map f xs ++ ws ≡ map f ys ++ vs = cc in
      let (p, q) = split xs ys ws vs a.1 b.1 h j t in
      (ap₂ (λ z zs. z ∷ zs) (kind.tells x y a.0 b.0 d) p, q)

word_kind : (k : ℕ) → Kind k Short (word k)
word_kind k = record { is = λ x l. high k 28 l; tells = λ x y l m e. omega arith }

loop_kind : Kind 7 Loop loop_word
loop_kind = record {
  is = λ l h. high 7 28 (omega arith);
  tells = λ l m h j e.
      let p : l.0 ≡ m.0 = omega arith in
      let q : l.1 ≡ m.1 = omega arith in
      λ i. (p i, q i);
}

-- ---- places

free_places : (k : ℕ) → (4 ≡ k → ⊥) → (i : ℕ) (ps : List Place) → i + length ps ≤ 2 ^ 28 → Free k (places_words i ps)
free_places k n i [] l = tt
free_places k n i (p ∷ ps) l = λ e. n (sym (high 4 28 (omega arith)) ∙ e)

-- the words begin with none of the kinds below 7
abbrev Past : List ℕ → Type 0
Past ws = (k : ℕ) → k < 7 → Free k ws

places_tell : (i : ℕ) (ps qs : List Place) (ws vs : List ℕ) → i + length ps ≤ 2 ^ 28 → i + length qs ≤ 2 ^ 28 → All Neat ps → All Neat qs → Past ws → Past vs
    → places_words i ps ++ ws ≡ places_words i qs ++ vs → (ps ≡ qs) × (ws ≡ vs)
places_tell i [] [] ws vs l m a b h j e = (refl, e)
places_tell i [] (q ∷ qs) ws vs l m a b h j e = absurd (subst (Free 4) e (h 4 (omega arith)) (high 4 28 (omega arith)))
places_tell i (p ∷ ps) [] ws vs l m a b h j e = absurd (subst (Free 4) (sym e) (j 4 (omega arith)) (high 4 28 (omega arith)))
places_tell i (p ∷ ps) (q ∷ qs) ws vs l m a b h j e =
    let e₁ : map (word 5) p.feeders ++ from_fed p ps ws ≡ map (word 5) q.feeders ++ from_fed q qs vs = regroup p ps ws ∙ ((cc) ∙ sym (regroup q qs vs)) in
    let (x, e₂) = split (word_kind 5) p.feeders q.feeders (from_fed p ps ws) (from_fed q qs vs) a.0.0 b.0.0 (fed_free p ps ws l a.0 h) (fed_free q qs vs m b.0 j) e₁ in
    let (y, e₃) = split (word_kind 6) p.fed q.fed (rest ps ws) (rest qs vs) a.0.1 b.0.1 (rest_free 6 ps ws (omega arith, omega arith, omega arith) h) (rest_free 6 qs vs (omega arith, omega arith, omega arith) j) e₂ in
    let (z, end) = places_tell (1 + i) ps qs ws vs (omega arith) (omega arith) a.1 b.1 h j e₃ in
    (λ k. record { feeders = x k; fed = y k } ∷ z k, end)
  where
    rest : List Place → List ℕ → List ℕ
    rest rs us = places_words (1 + i) rs ++ us

    from_fed : Place → List Place → List ℕ → List ℕ
    from_fed r rs us = map (word 6) r.fed ++ rest rs us

    regroup : (r : Place) (rs : List Place) (us : List ℕ) → map (word 5) r.feeders ++ from_fed r rs us ≡ ((map (word 5) r.feeders ++ map (word 6) r.fed) ++ places_words (1 + i) rs) ++ us
    regroup r rs us = simp append_assoc

    rest_free : (k : ℕ) (rs : List Place) (us : List ℕ) → (4 < k) × (k < 7) × (1 + i + length rs ≤ 2 ^ 28) → Past us → Free k (rest rs us)
    rest_free k rs us (b, c, l) h = free_append k (places_words (1 + i) rs) us (free_places k (λ e. omega arith) (1 + i) rs l) (h k c)

    fed_free : (r : Place) (rs : List Place) (us : List ℕ) → i + length (r ∷ rs) ≤ 2 ^ 28 → Neat r → Past us → Free 5 (from_fed r rs us)
    fed_free r rs us l n h = free_append 5 (map (word 6) r.fed) (rest rs us) (free_map (word_kind 6) 5 (λ e. omega arith) r.fed n.1) (rest_free 5 rs us (omega arith, omega arith, omega arith) h)

-- ---- nets

module _ (n : Net) where
  abbrev end_word_lem : List ℕ
  end_word_lem = word 8 (length n.places) ∷ []

  abbrev from_loops : List ℕ
  from_loops = map loop_word n.loops ++ end_word_lem

  abbrev from_places : List ℕ
  from_places = places_words 0 n.places ++ from_loops

  abbrev from_last : List ℕ
  from_last = map (word 3) n.last_steps ++ from_places

  abbrev from_first : List ℕ
  from_first = map (word 2) n.first_steps ++ from_last

  module _ (t : Tidy n) where
    few : 0 + length n.places ≤ 2 ^ 28
    few = let l = t.places_few in omega arith

    end_free : (k : ℕ) → k < 8 → Free k end_word_lem
    end_free k l e = let b = t.places_few in let h = high 8 28 {lo = length n.places} (omega arith) in omega arith

    loops_free : Past from_loops
    loops_free k l = free_append k (map loop_word n.loops) end_word_lem (free_map loop_kind k (λ e. omega arith) n.loops t.loops_short) (end_free k (omega arith))

    places_free : (k : ℕ) → k < 4 → Free k from_places
    places_free k l = free_append k (places_words 0 n.places) from_loops (free_places k (λ e. omega arith) 0 n.places few) (loops_free k (omega arith))

    last_free : (k : ℕ) → k < 3 → Free k from_last
    last_free k l = free_append k (map (word 3) n.last_steps) from_places (free_map (word_kind 3) k (λ e. omega arith) n.last_steps t.last_short) (places_free k (omega arith))

    first_free : (k : ℕ) → k < 2 → Free k from_first
    first_free k l = free_append k (map (word 2) n.first_steps) from_last (free_map (word_kind 2) k (λ e. omega arith) n.first_steps t.first_short) (last_free k (omega arith))

pub words_tell : (n m : Net) → Tidy n → Tidy m → words n ≡ words m → n ≡ m
words_tell n m t u e =
    let (a, e₁) = split (word_kind 1) n.seen_steps m.seen_steps (from_first n) (from_first m) t.seen_short u.seen_short (first_free n t 1 (omega arith)) (first_free m u 1 (omega arith)) e in
    let (b, e₂) = split (word_kind 2) n.first_steps m.first_steps (from_last n) (from_last m) t.first_short u.first_short (last_free n t 2 (omega arith)) (last_free m u 2 (omega arith)) e₁ in
    let (c, e₃) = split (word_kind 3) n.last_steps m.last_steps (from_places n) (from_places m) t.last_short u.last_short (places_free n t 3 (omega arith)) (places_free m u 3 (omega arith)) e₂ in
    let (d, e₄) = places_tell 0 n.places m.places (from_loops n) (from_loops m) (few n t) (few m u) t.places_neat u.places_neat (loops_free n t) (loops_free m u) e₃ in
    let (f, _) = split loop_kind n.loops m.loops (end_word_lem n) (end_word_lem m) t.loops_short u.loops_short (end_free n t 7 (omega arith)) (end_free m u 7 (omega arith)) e₄ in
    λ i. record { seen_steps = a i; first_steps = b i; last_steps = c i; places = d i; loops = f i }
