-- A page tells its net, and pages tell whether jobs agree. Assumes nothing.
use Rattle.std.proofs.Common.{◌≡◌, ℕ, ◌+◌, ◌^◌, ◌<◌, ◌≤◌, List, [], ◌∷◌, ◌++◌, map, length, get_or, codes, decimal, sym, refl, ap, ◌∙◌, subst, ⊎_elim, append_assoc, arith}
use Rattle.std.specs.List.{AllByRecursion as All}
use Rattle.std.proofs.lemmas.Fmt.{decimal_injective}
use Rattle.std.proofs.ByRecursion.{All-append}
use Rattle.std.proofs.lemmas.List.{length-map}
use Rattle.steps.specs.declared.names.Name.{Name}
use Rattle.steps.specs.Kinds.{name_text}
use Rattle.book.specs.Jobs.{EachStepped}
use Rattle.flow.specs.Flow.{Jobs}
use Rattle.net.specs.Net.{Net, Place, Places, Draws, net, words}
use Rattle.facts.proofs.Law.{law, tidy}
use Rattle.facts.proofs.Reading.{Loop, Tidy, words_tell}
use Rattle.listing.specs.Page.{line, named, place_line, place_lines, loop_lines, listing}
use Rattle.listing.specs.Listed.{Lists, PagesTell}
use Rattle.listing.proofs.Lines.{Plain, front_tells, line_tells}
use Rattle.listing.proofs.Naming.{Parting, Lawful, Known, decimal_plain, name_plain, known_plain, named_plain, named_unmarked, named_tell, roster_lawful}
use Rattle.listing.proofs.Within.{Within, net_within, stepped_all}

module _ (names : List (List ℕ)) (lawful : Lawful names) where
  -- ---- lines of names

  names_tell : (f : List ℕ) → Plain f → (xs ys ws vs : List ℕ) → All (Known names) xs → All (Known names) ys → line f (named names xs) ++ ws ≡ line f (named names ys) ++ vs → (xs ≡ ys) × (ws ≡ vs)
  names_tell f p xs ys ws vs a b e =
      let (_, q, r) = line_tells f f (named names xs) (named names ys) ws vs (p, named_plain names lawful xs a) (p, named_plain names lawful ys b) e in
      (named_tell names lawful xs ys a b q, r)

  -- ---- loops

  abbrev KnownLoop : ℕ × ℕ → Type 0
  KnownLoop l = Known names l.0

  abbrev loop_fields : ℕ × ℕ → List (List ℕ)
  loop_fields l = get_or names l.0 [] ∷ decimal l.1 ∷ []

  loop_plain : (l : ℕ × ℕ) → KnownLoop l → Loop l → All Plain (codes "LOOP" ∷ loop_fields l)
  loop_plain l k s = (name_plain (codes "LOOP") refl, (known_plain names lawful l.0 k, (decimal_plain l.1 (omega arith), tt)))

  loops_tell : (ls ms : List (ℕ × ℕ)) → All KnownLoop ls → All KnownLoop ms → All Loop ls → All Loop ms → loop_lines names ls ≡ loop_lines names ms → ls ≡ ms
  loops_tell [] [] a b c d e = refl
  loops_tell [] (m ∷ ms) a b c d e = let z : ◌≡◌ {A = ℕ} 0 76 = ap (λ v. get_or v 0 0) e in absurd (omega arith)
  loops_tell (l ∷ ls) [] a b c d e = let z : ◌≡◌ {A = ℕ} 76 0 = ap (λ v. get_or v 0 0) e in absurd (omega arith)
  loops_tell (l ∷ ls) (m ∷ ms) a b c d e =
      let (_, q, r) = line_tells (codes "LOOP") (codes "LOOP") (loop_fields l) (loop_fields m) (loop_lines names ls) (loop_lines names ms) (loop_plain l a.0 c.0) (loop_plain m b.0 d.0) e in
      let n : get_or names l.0 [] ≡ get_or names m.0 [] = cc in
      let i : decimal l.1 ≡ decimal m.1 = cc in
      let x : l.0 ≡ m.0 = lawful.apart l.0 m.0 a.0 b.0 n in
      let y : l.1 ≡ m.1 = decimal_injective l.1 m.1 (omega arith) (omega arith) i in
      let t = loops_tell ls ms a.1 b.1 c.1 d.1 r in
      λ k. (x k, y k) ∷ t k

  -- ---- places

  abbrev KnownPlace : Place → Type 0
  KnownPlace p = All (Known names) p.feeders × All (Known names) p.fed

  -- the fields of a place after its number
  abbrev sides : Place → List (List ℕ)
  sides p = named names p.feeders ++ codes ">" ∷ named names p.fed

  sides_tell : (p q : Place) → KnownPlace p → KnownPlace q → sides p ≡ sides q → p ≡ q
  sides_tell p q a b e =
      let (f, d) = front_tells Parting (named names p.feeders) (named names q.feeders) (codes ">" ∷ named names p.fed) (codes ">" ∷ named names q.fed)
      (named_unmarked names lawful p.feeders a.0) (named_unmarked names lawful q.feeders b.0) refl refl e in
      let g : named names p.fed ≡ named names q.fed = cc in
      let x = named_tell names lawful p.feeders q.feeders a.0 b.0 f in
      let y = named_tell names lawful p.fed q.fed a.1 b.1 g in
      λ k. record { feeders = x k; fed = y k }

  place_plain : (i : ℕ) (p : Place) → i < 2 ^ 64 → KnownPlace p → All Plain (codes "PLACE" ∷ decimal i ∷ sides p)
  place_plain i p l a =
      let parting : Plain (codes ">") = (⊎_elim (λ e. omega arith) (λ e. omega arith), tt) in
      let both = All-append Plain (named names p.feeders) (codes ">" ∷ named names p.fed) (named_plain names lawful p.feeders a.0) (parting, named_plain names lawful p.fed a.1) in
      (name_plain (codes "PLACE") refl, (decimal_plain i l, both))

  -- no loop's line begins with a place's letter
  no_loop : (ls : List (ℕ × ℕ)) (v : List ℕ) → loop_lines names ls ≡ 80 ∷ v → ⊥
  no_loop [] v e = let z : ◌≡◌ {A = ℕ} 0 80 = ap (λ v. get_or v 0 0) e in omega arith
  no_loop (l ∷ ls) v e = let z : ◌≡◌ {A = ℕ} 76 80 = ap (λ v. get_or v 0 0) e in omega arith

  places_tell : (i : ℕ) (ps qs : List Place) (ls ms : List (ℕ × ℕ)) → i + length ps ≤ 2 ^ 64 → i + length qs ≤ 2 ^ 64 → All KnownPlace ps → All KnownPlace qs
      → place_lines names i ps ++ loop_lines names ls ≡ place_lines names i qs ++ loop_lines names ms → (ps ≡ qs) × (loop_lines names ls ≡ loop_lines names ms)
  places_tell i [] [] ls ms l m a b e = (refl, e)
  places_tell i [] (q ∷ qs) ls ms l m a b e = absurd (no_loop ls _ e)
  places_tell i (p ∷ ps) [] ls ms l m a b e = absurd (no_loop ms _ (sym e))
  places_tell i (p ∷ ps) (q ∷ qs) ls ms l m a b e =
      let (_, f, r) = line_tells (codes "PLACE") (codes "PLACE") (decimal i ∷ sides p) (decimal i ∷ sides q)
      (place_lines names (1 + i) ps ++ loop_lines names ls) (place_lines names (1 + i) qs ++ loop_lines names ms)
      (place_plain i p (omega arith) a.0) (place_plain i q (omega arith) b.0)
      (sym (append_assoc (place_line names i p) (place_lines names (1 + i) ps) (loop_lines names ls))
      ∙ (e ∙ append_assoc (place_line names i q) (place_lines names (1 + i) qs) (loop_lines names ms))) in
      let g : sides p ≡ sides q = cc in
      let x = sides_tell p q a.0 b.0 g in
      let (y, z) = places_tell (1 + i) ps qs ls ms (omega arith) (omega arith) a.1 b.1 r in
      (λ k. x k ∷ y k, z)

  -- ---- nets

  module _ (n : Net) where
    abbrev from_places : List ℕ
    from_places = place_lines names 0 n.places ++ loop_lines names n.loops

    abbrev from_last : List ℕ
    from_last = line (codes "LAST") (named names n.last_steps) ++ from_places

    abbrev from_first : List ℕ
    from_first = line (codes "FIRST") (named names n.first_steps) ++ from_last

  pub page_tells_net : (n m : Net) → Within (Known names) n → Within (Known names) m → Tidy n → Tidy m → listing names n ≡ listing names m → n ≡ m
  page_tells_net n m w v t u e =
      let (a, e₁) = names_tell (codes "STEPS") (name_plain (codes "STEPS") refl) n.seen_steps m.seen_steps (from_first n) (from_first m) w.seen_within v.seen_within e in
      let (b, e₂) = names_tell (codes "FIRST") (name_plain (codes "FIRST") refl) n.first_steps m.first_steps (from_last n) (from_last m) w.first_within v.first_within e₁ in
      let (c, e₃) = names_tell (codes "LAST") (name_plain (codes "LAST") refl) n.last_steps m.last_steps (from_places n) (from_places m) w.last_within v.last_within e₂ in
      let k = t.places_few in
      let l = u.places_few in
      let (d, e₄) = places_tell 0 n.places m.places n.loops m.loops (omega arith) (omega arith) w.places_within v.places_within e₃ in
      let f = loops_tell n.loops m.loops w.loops_within v.loops_within t.loops_short u.loops_short e₄ in
      λ i. record { seen_steps = a i; first_steps = b i; last_steps = c i; places = d i; loops = f i }

-- ---- jobs

drawn : (js : Jobs) (roster : List Name) (p : List ℕ) (l : Lists js roster p) → Draws js (words (net js l.groups))
drawn js roster p l = record { groups = l.groups; listed = l.listed; few = l.few; seated = l.seated; written = refl }

pub pages_tell : (steps : ℕ) (roster : List Name) → PagesTell steps roster
pages_tell steps roster fit small js ks a b p q l m =
    let t = tidy js l.groups l.few in
    let u = tidy ks m.groups m.few in
    let both = law js ks (words x) (words y) (drawn js roster p l) (drawn ks roster q m) in (
      λ e. both.0 (ap words (page_tells_net names (roster_lawful roster steps fit) x y (known js a l.groups l.listed) (known ks b m.groups m.listed) t u (sym l.written ∙ (e ∙ m.written)))),
      λ e. l.written ∙ (ap (listing names) (words_tell x y t u (both.1 e)) ∙ sym m.written),
    )
  where
    names : List (List ℕ)
    names = map name_text roster

    x : Net
    x = net js l.groups

    y : Net
    y = net ks m.groups

    known : (js : Jobs) → EachStepped steps js → (groups : List ℕ) → Places js groups → Within (Known names) (net js groups)
    known js a groups h = net_within (Known names) js (subst (λ n. All (All (λ s. s < n)) js) (sym (length-map roster name_text ∙ fit.1)) (stepped_all steps js a)) groups h
