-- The steps of a net are steps of its jobs. Assumes nothing.
use Rattle.std.proofs.Common.{◌≡◌, ℕ, ◌+◌, ◌<◌, Bool, true, false, not, ◌&&◌, eqb, List, [], ◌∷◌, get_or, filter, refl, subst, ⊎_elim}
use Rattle.std.specs.List.{AllByRecursion as All}
use Rattle.std.proofs.ByRecursion.{All-from_get_or, All-map, All-weaker, all_kept_by}
use Rattle.std.proofs.lemmas.Bool.{both_ways, and_parts, or_cases, eqb-true}
use Rattle.groups.specs.Groups.{Listed}
use Rattle.book.specs.Jobs.{EachStepped}
use Rattle.flow.specs.Bits.{bit}
use Rattle.flow.specs.Flow.{Jobs, some, has, begins, ends, next, seen, first, last, looping, precedes, feeds, reduced}
use Rattle.flow.proofs.Bits.{bit_in}
use Rattle.bonds.specs.Pairs.{place_pairs, feeder_mark, fed_mark}
use Rattle.net.specs.Net.{Net, Place, Places, net, place, those, position, sits}
use Rattle.facts.proofs.PlaceGroups.{marked_feeder, marked_fed, feeds_parts}
use Rattle.facts.proofs.Moves.{group_feeds}
use Rattle.facts.proofs.Steps.{those_all}

-- P holds of each step of the net
pub record Within (P : ℕ → Type 0) (n : Net) : Type 0 where
  pub seen_within : All P n.seen_steps
  pub first_within : All P n.first_steps
  pub last_within : All P n.last_steps
  pub places_within : All (λ (p : Place). All P p.feeders × All P p.fed) n.places
  pub loops_within : All (λ (l : ℕ × ℕ). P l.0) n.loops

-- what the one that passes the test gives
some_gives : {X : Type 0} (A : X → Type 0) (B : Type 0) (t : X → Bool) → ((x : X) → A x → t x ≡ true → B) → (xs : List X) → All A xs → some t xs ≡ true → B
some_gives A B t f [] a e = absurd (both_ways false refl e)
some_gives A B t f (x ∷ xs) a e = ⊎_elim (f x a.0) (some_gives A B t f xs a.1) (or_cases (t x) (some t xs) e)

module _ (P : ℕ → Type 0) where
  -- ---- a job

  equal_holds : (s x : ℕ) → P x → eqb x s ≡ true → P s
  equal_holds s x p e = subst P (eqb-true x s e) p

  begins_holds : (s : ℕ) (job : List ℕ) → All P job → begins s job ≡ true → P s
  begins_holds s [] a e = absurd (both_ways false refl e)
  begins_holds s (x ∷ xs) a e = equal_holds s x a.0 e

  ends_holds : (s : ℕ) (job : List ℕ) → All P job → ends s job ≡ true → P s
  ends_holds s [] a e = absurd (both_ways false refl e)
  ends_holds s (x ∷ []) a e = equal_holds s x a.0 e
  ends_holds s (x ∷ (y ∷ ys)) a e = ends_holds s (y ∷ ys) a.1 e

  next_holds : (a b : ℕ) (job : List ℕ) → All P job → next a b job ≡ true → P a × P b
  next_holds a b [] h e = absurd (both_ways false refl e)
  next_holds a b (x ∷ xs) h e = ⊎_elim
      (λ d. let (p, q) = and_parts (eqb x a) (begins b xs) d in (equal_holds a x h.0 p, begins_holds b xs h.1 q))
      (next_holds a b xs h.1) (or_cases (eqb x a && begins b xs) (next a b xs) e)

  -- ---- jobs

  module _ (js : Jobs) (all : All (All P) js) where
    reduced_all : All (All P) (reduced js)
    reduced_all = All-map (All P) (filter (λ s. not (looping js s))) js (All-weaker (All P) (λ j. All P (filter (λ s. not (looping js s)) j)) (λ j. all_kept_by (λ s. not (looping js s)) P j) js all)

    seen_holds : (s : ℕ) → seen js s ≡ true → P s
    seen_holds s = some_gives (All P) (P s) (has s) (some_gives P (P s) (λ x. eqb x s) (equal_holds s)) js all

    first_holds : (s : ℕ) → first js s ≡ true → P s
    first_holds s = some_gives (All P) (P s) (begins s) (begins_holds s) (reduced js) reduced_all

    last_holds : (s : ℕ) → last js s ≡ true → P s
    last_holds s = some_gives (All P) (P s) (ends s) (ends_holds s) (reduced js) reduced_all

    looping_holds : (s : ℕ) → looping js s ≡ true → P s
    looping_holds s e = (some_gives (All P) (P s × P s) (next s s) (next_holds s s) js all e).0

    feeds_holds : (a b : ℕ) → feeds js a b ≡ true → P a × P b
    feeds_holds a b e = some_gives (All P) (P a × P b) (next a b) (next_holds a b) (reduced js) reduced_all (and_parts (precedes js a b) _ (feeds_parts js a b e).2).0

    -- each feeder of a place feeds something, and each fed step is fed by something
    place_holds : (g : ℕ) → Listed (place_pairs js) feeder_mark fed_mark g → All P (place g).feeders × All P (place g).fed
    place_holds g h =
        let (x, xi, xm) = h.one in
        let (y, yi, ym) = h.two in
        let (z, zl, ze) = marked_fed y ym in
        let feed = group_feeds js g h.largest.paired in (
          those_all P (bit g) (λ a l e. (feeds_holds a z (feed a z l zl (bit_in g a e) (rw ze at yi))).0),
          those_all P (λ s. bit g (32 + s)) (λ b l e. (feeds_holds x b (feed x b (marked_feeder x xm) l xi (bit_in g (32 + b) e))).1),
        )

    pub net_within : (groups : List ℕ) → Places js groups → Within P (net js groups)
    net_within groups h = record {
      seen_within = those_all P (seen js) (λ s _. seen_holds s);
      first_within = those_all P (first js) (λ s _. first_holds s);
      last_within = those_all P (last js) (λ s _. last_holds s);
      places_within = All-map (λ (p : Place). All P p.feeders × All P p.fed) place groups
          (All-from_get_or (λ g. All P (place g).feeders × All P (place g).fed) groups 0 (λ i l. place_holds (get_or groups i 0) (h.sound i l)));
      loops_within = All-map (λ (l : ℕ × ℕ). P l.0) (λ t. (t, position (sits js t) groups)) (those (looping js)) (those_all P (looping js) (λ s _. looping_holds s));
    }

pub stepped_all : (steps : ℕ) (js : Jobs) → EachStepped steps js → All (All (λ s. s < steps)) js
stepped_all steps js h = All-from_get_or (All (λ s. s < steps)) js [] (λ i l. All-from_get_or (λ s. s < steps) (get_or js i []) 0 (λ k m. h i k l m))
