-- Two drawn nets are equal exactly when the jobs agree on the five facts
use Rattle.std.proofs.Common.{◌≡◌, ℕ, ◌+◌, ◌^◌, ◌<◌, ◌≤◌, Bool, true, ◌↔◌, List, map, length, get_or, Ok, Err, Decides, Result, sym, refl, ap, ◌∙◌, subst, arith}
use Rattle.std.specs.List.{AllByRecursion as All}
use Rattle.std.proofs.ByRecursion.{All-from_get_or, All-map}
use Rattle.std.proofs.lemmas.List.{length-map}
use Rattle.std.proofs.lemmas.Bool.Decides.{Decides-and}
use Rattle.groups.proofs.Deciding.{below}
use Rattle.groups.proofs.Listings.{one_listing}
use Rattle.flow.specs.Bits.{bit}
use Rattle.flow.specs.Flow.{Jobs, some, seen, first, last, looping, only_before, only_after}
use Rattle.flow.specs.Facts.{Agree}
use Rattle.flow.proofs.Bits.{alike}
use Rattle.bonds.specs.Pairs.{place_pairs, feeder_mark, fed_mark}
use Rattle.net.specs.Net.{Net, Places, Draws, Seated, net, words, place, sits, position, those}
use Rattle.net.specs.Draw.{Drew, LowestUnseated}
use Rattle.net.specs.declared.faults.DrawFault.{DrawFault}
use Rattle.net.specs.declared.faults.DrawFault.TheVariants.{Void, TooMany, Unseated, TooShort}
use Rattle.facts.proofs.Steps.{same_decides, every_decides, those_all, those_at, those_same, those_tell, map_same, map_tell, map_one, map_firsts, position_below, position_passes}
use Rattle.facts.proofs.Reading.{Short, Neat, Loop, Tidy, words_tell}
use Rattle.facts.proofs.Listings.{moved_listing, listing_moves}
use Rattle.facts.proofs.PlaceGroups.{lawful, place_tells}
use Rattle.facts.proofs.Moves.{facts_move, moves_feeds, moves_kin}

-- a step with the number of its place
abbrev seat : Jobs → List ℕ → ℕ → ℕ × ℕ
seat js groups t = (t, position (sits js t) groups)

-- the place has exactly the only-before and the only-after of t
abbrev Fitting : Jobs → ℕ → ℕ → Type 0
Fitting js t g = (s : ℕ) → s < 32 → (bit g s ≡ only_before js t s) × (bit g (32 + s) ≡ only_after js t s)

sits_decides : (js : Jobs) (t g : ℕ) → Decides (sits js t g) (Fitting js t g)
sits_decides js t g = every_decides _ (λ s. (bit g s ≡ only_before js t s) × (bit g (32 + s) ≡ only_after js t s))
    (λ s. Decides-and _ _ (same_decides (bit g s) (only_before js t s)) (same_decides (bit g (32 + s)) (only_after js t s)))

-- ---- jobs that agree have one net

module _ (js ks : Jobs) (agree : Agree js ks) where
  sits_same : (t : ℕ) → t < 32 → looping js t ≡ true → (g : ℕ) → sits js t g ≡ sits ks t g
  sits_same t l o g =
      let loops = agree.same_loops in
      alike (sits js t g) (sits ks t g)
      (λ h. (sits_decides ks t g).1 (λ s k. let (b, a) = (sits_decides js t g).0 h s k in (b ∙ loops.befores t s l k o, a ∙ loops.afters t s l k o)))
      (λ h. (sits_decides js t g).1 (λ s k. let (b, a) = (sits_decides ks t g).0 h s k in (b ∙ sym (loops.befores t s l k o), a ∙ sym (loops.afters t s l k o))))

  net_same : (groups : List ℕ) → net js groups ≡ net ks groups
  net_same groups =
      let a : those (seen js) ≡ those (seen ks) = those_same (seen js) (seen ks) agree.same_seen in
      let b : those (first js) ≡ those (first ks) = those_same (first js) (first ks) agree.same_ends.firsts in
      let c : those (last js) ≡ those (last ks) = those_same (last js) (last ks) agree.same_ends.lasts in
      let d : map (seat js groups) (those (looping js)) ≡ map (seat ks groups) (those (looping ks)) =
      map_same (seat js groups) (seat ks groups) (those (looping js))
      (those_all (λ t. seat js groups t ≡ seat ks groups t) (looping js) (λ t l o. λ i. (t, position (λ g. sits_same t l o g i) groups)))
      ∙ ap (map (seat ks groups)) (those_same (looping js) (looping ks) agree.same_loops.steps) in
      λ i. record { seen_steps = a i; first_steps = b i; last_steps = c i; places = map place groups; loops = d i }

  places_same : (groups : List ℕ) → Places js groups → Places ks groups
  places_same groups p =
      let there = facts_move js ks agree.same_feeds agree.same_kin in
      let back = facts_move ks js (λ a b l m. sym (agree.same_feeds a b l m)) (λ a b l m j k. sym (agree.same_kin a b l m k j)) in
      moved_listing feeder_mark fed_mark (place_pairs js) (place_pairs ks) (lawful js) (lawful ks) there back groups p

  seat_same : (t : ℕ) → t < 32 → looping js t ≡ true → (groups : List ℕ) → some (sits js t) groups ≡ some (sits ks t) groups
  seat_same t l o groups = λ i. some (λ g. sits_same t l o g i) groups

  pub draws_same : (ws : List ℕ) → Draws js ws → Draws ks ws
  draws_same ws d = record {
    groups = d.groups;
    listed = places_same d.groups d.listed;
    few = d.few;
    seated = λ t l o. let o' = agree.same_loops.steps t l ∙ o in sym (seat_same t l o' d.groups) ∙ d.seated t l o';
    written = d.written ∙ ap words (net_same d.groups);
  }

  unseated_same : (groups : List ℕ) (t : ℕ) → LowestUnseated js groups t → LowestUnseated ks groups t
  unseated_same groups t u = record {
    step = u.step;
    loops = sym (agree.same_loops.steps t u.step) ∙ u.loops;
    unseated = sym (seat_same t u.step u.loops groups) ∙ u.unseated;
    lowest = λ s l o. let k : s < 32 = omega (arith, u.step) in let o' = agree.same_loops.steps s k ∙ o in sym (seat_same s k o' groups) ∙ u.lowest s l o';
  }

  -- what a draw answers and writes for the one, it may for the other
  pub drew_same : (steps len : ℕ) (old new : List ℕ) (r : Result ℕ DrawFault) → Drew steps len js old new r → Drew steps len ks old new r
  drew_same steps len old new (Ok n) (o, (ws, d, count, front, rest, long)) = (o, (ws, draws_same ws d, count, front, rest, long))
  drew_same steps len old new (Err (Void v)) w = w
  drew_same steps len old new (Err TooMany) (o, (groups, p, many), kept) = (o, (groups, places_same groups p, many), kept)
  drew_same steps len old new (Err (Unseated t)) (o, (groups, p, few, u), kept) = (o, (groups, places_same groups p, few, unseated_same groups t u), kept)
  drew_same steps len old new (Err TooShort) (o, (ws, d, short), kept) = (o, (ws, draws_same ws d, short), kept)

  agree_same : (ws vs : List ℕ) → Draws js ws → Draws ks vs → ws ≡ vs
  agree_same ws vs d e =
      let groups-same : d.groups ≡ e.groups = one_listing (place_pairs ks) feeder_mark fed_mark d.groups e.groups (places_same d.groups d.listed) e.listed in
      d.written ∙ (ap words (net_same d.groups) ∙ (ap (λ groups. words (net ks groups)) groups-same ∙ sym e.written))

-- ---- one net is of jobs that agree

pub tidy : (js : Jobs) (groups : List ℕ) → length groups ≤ 256 → Tidy (net js groups)
tidy js groups few = record {
  seen_short = short (seen js);
  first_short = short (first js);
  last_short = short (last js);
  places_neat = All-map Neat place groups (All-from_get_or (λ g. Neat (place g)) groups 0 (λ i l. (short (bit (get_or groups i 0)), short (λ s. bit (get_or groups i 0) (32 + s)))));
  places_few = rw (length-map groups place) few;
  loops_short = All-map Loop (seat js groups) (those (looping js)) (those_all (λ t. Loop (seat js groups t)) (looping js)
      (λ t l o. let k = position_below (sits js t) groups in (omega arith, omega arith)));
}
  where
    short : (t : ℕ → Bool) → All Short (those t)
    short t = those_all Short t (λ s l _. omega arith)

small : (js : Jobs) (groups : List ℕ) → Places js groups → All (λ g. g < 2 ^ 64) groups
small js groups p = All-from_get_or (λ g. g < 2 ^ 64) groups 0 (λ i l. below (place_pairs js) (lawful js) feeder_mark fed_mark (get_or groups i 0) (p.sound i l))

-- both nets have the same places
module _ (js ks : Jobs) (groups : List ℕ) (places : Places js groups) (places' : Places ks groups) (seated : Seated js groups) (seated' : Seated ks groups) (e : net js groups ≡ net ks groups) where
  loops_same : map (seat js groups) (those (looping js)) ≡ map (seat ks groups) (those (looping ks))
  loops_same = ap (λ (n : Net). n.loops) e

  looping_same : those (looping js) ≡ those (looping ks)
  looping_same =
      sym (map_firsts (λ t. position (sits js t) groups) (those (looping js)))
      ∙ (ap (map (λ (l : ℕ × ℕ). l.0)) loops_same ∙ map_firsts (λ t. position (sits ks t) groups) (those (looping ks)))

  looping_agree : (t : ℕ) → t < 32 → looping js t ≡ looping ks t
  looping_agree = those_tell (looping js) (looping ks) looping_same

  seats_same : (t : ℕ) → t < 32 → looping js t ≡ true → position (sits js t) groups ≡ position (sits ks t) groups
  seats_same t l o =
      ap (λ (l : ℕ × ℕ). l.1)
      (those_at (λ t. seat js groups t ≡ seat ks groups t) (looping js)
      (map_tell (seat js groups) (seat ks groups) (those (looping js)) (loops_same ∙ ap (map (seat ks groups)) (sym looping_same))) t l o)

  -- a looping step sits on one place in both
  neighbours : (t s : ℕ) → t < 32 → s < 32 → looping js t ≡ true → (only_before js t s ≡ only_before ks t s) × (only_after js t s ≡ only_after ks t s)
  neighbours t s l k o =
      let g = get_or groups (position (sits js t) groups) 0 in
      let on : sits ks t g ≡ true = rw (seats_same t l o) (position_passes (sits ks t) groups (seated' t l (sym (looping_agree t l) ∙ o))) in
      let (b, a) = (sits_decides js t g).0 (position_passes (sits js t) groups (seated t l o)) s k in
      let (b', a') = (sits_decides ks t g).0 on s k in
      (sym b ∙ b', sym a ∙ a')

  net_agree : Agree js ks
  net_agree =
      let there = listing_moves feeder_mark fed_mark (place_pairs js) (place_pairs ks) (lawful js) groups places places' in
      let back = listing_moves feeder_mark fed_mark (place_pairs ks) (place_pairs js) (lawful ks) groups places' places in
      record {
        same_seen = those_tell (seen js) (seen ks) (ap (λ (n : Net). n.seen_steps) e);
        same_loops = record { steps = looping_agree; befores = λ t s l k o. (neighbours t s l k o).0; afters = λ t s l k o. (neighbours t s l k o).1 };
        same_ends = record { firsts = those_tell (first js) (first ks) (ap (λ (n : Net). n.first_steps) e); lasts = those_tell (last js) (last ks) (ap (λ (n : Net). n.last_steps) e) };
        same_feeds = moves_feeds js ks there back;
        same_kin = moves_kin js ks there back;
      }

same_agree : (js ks : Jobs) (ws vs : List ℕ) → Draws js ws → Draws ks vs → ws ≡ vs → Agree js ks
same_agree js ks ws vs d e h =
    let n : net js d.groups ≡ net ks e.groups = words_tell (net js d.groups) (net ks e.groups) (tidy js d.groups d.few) (tidy ks e.groups e.few) (sym d.written ∙ (h ∙ e.written)) in
    let groups-same : e.groups ≡ d.groups =
    sym (map_one (λ g. g < 2 ^ 64) place place_tells d.groups e.groups (small js d.groups d.listed) (small ks e.groups e.listed) (ap (λ (n : Net). n.places) n)) in
    net_agree js ks d.groups d.listed (subst (Places ks) groups-same e.listed) d.seated (subst (Seated ks) groups-same e.seated) (n ∙ ap (net ks) groups-same)

pub law : (js ks : Jobs) (ws vs : List ℕ) → Draws js ws → Draws ks vs → (ws ≡ vs) ↔ Agree js ks
law js ks ws vs d e = (same_agree js ks ws vs d e, λ a. agree_same js ks a ws vs d e)

pub one_drawing : (js : Jobs) (ws vs : List ℕ) → Draws js ws → Draws js vs → ws ≡ vs
one_drawing js ws vs d e = agree_same js js (same_agree js js ws ws d d refl) ws vs d e
