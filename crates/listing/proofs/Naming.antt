-- Names and numbers as fields of a line. Assumes nothing.
use Rattle.std.proofs.Common.{◌≡◌, ℕ, ◌+◌, ◌%◌, ◌^◌, ◌<◌, true, false, List, [], ◌∷◌, map, length, get_or, codes, decimal, sym, refl, ap, ◌∙◌, inl, inr, ⊎_elim, arith}
use Rattle.std.specs.List.{AllByRecursion as All}
use Rattle.std.proofs.lemmas.Fmt.{decimal_by_steps}
use Rattle.std.proofs.ByRecursion.{All-get_or, All-map, All-weaker, All-append}
use Rattle.std.proofs.lemmas.List.{length-map, get_or-map}
use Rattle.std.proofs.lemmas.Bool.{both_ways, and_parts, cases_order}
use Rattle.steps.specs.declared.names.Name.{Name}
use Rattle.std.specs.declared.cmp.Ordering.TheVariants.{Less, Equal}
use Rattle.steps.specs.Kinds.{name_order, name_text}
use Rattle.steps.specs.Making.{name_of}
use Rattle.steps.specs.Ranges.{IsName, name_byte, name_bytes}
use Rattle.steps.specs.Rosters.{Fit}
use Rattle.steps.specs.Alike.{same_name, name_laws}
use Rattle.facts.proofs.Steps.{map_one}
use Rattle.listing.specs.Page.{named}
use Rattle.listing.proofs.Lines.{Ending, Plain, Unmarked}

-- ---- fields

pub decimal_plain : (n : ℕ) → n < 2 ^ 64 → Plain (decimal n)
decimal_plain = decimal_by_steps (λ _ ds. Plain ds) (λ n l. (digit n l, tt)) (λ n ds l h. All-append (λ b. Ending b → ⊥) ds ((48 + n % 10) ∷ []) h (digit (n % 10) (omega arith), tt))
  where
    digit : (d : ℕ) → d < 10 → Ending (48 + d) → ⊥
    digit d l = ⊎_elim (λ e. omega arith) (λ e. omega arith)

pub name_plain : (bs : List ℕ) → name_bytes bs ≡ true → Plain bs
name_plain [] h = tt
name_plain (b ∷ bs) h = let (p, q) = and_parts (name_byte b) (name_bytes bs) h in (⊎_elim (other 32 refl p) (other 10 refl p), name_plain bs q)
  where
    other : (c : ℕ) → name_byte c ≡ false → name_byte b ≡ true → b ≡ c → ⊥
    other c f t e = both_ways (name_byte c) f (ap name_byte (sym e) ∙ t)

-- the field that parts feeders from fed steps
abbrev pub Parting : List ℕ → Type 0
Parting f = f ≡ codes ">"

name_parts_nothing : (bs : List ℕ) → name_bytes bs ≡ true → Parting bs → ⊥
name_parts_nothing bs h e = both_ways (name_bytes (codes ">")) refl (ap name_bytes (sym e) ∙ h)

-- ---- the names of a roster

-- each is a name's text, and no two are equal
pub record Lawful (names : List (List ℕ)) : Type 0 where
  pub are_names : (i : ℕ) → i < length names → IsName (get_or names i [])
  pub apart : (i j : ℕ) → i < length names → j < length names → get_or names i [] ≡ get_or names j [] → i ≡ j

-- a step that has a name
abbrev pub Known : List (List ℕ) → ℕ → Type 0
Known names s = s < length names

module _ (names : List (List ℕ)) (lawful : Lawful names) where
  -- what holds of each text of name bytes holds of the names of steps
  named_all : (P : List ℕ → Type 0) → ((bs : List ℕ) → name_bytes bs ≡ true → P bs) → (xs : List ℕ) → All (Known names) xs → All P (named names xs)
  named_all P f xs a = All-map P (λ s. get_or names s []) xs (All-weaker (Known names) (λ s. P (get_or names s [])) (λ s l. f (get_or names s []) (lawful.are_names s l).2) xs a)

  pub known_plain : (s : ℕ) → Known names s → Plain (get_or names s [])
  known_plain s l = name_plain (get_or names s []) (lawful.are_names s l).2

  pub named_plain : (xs : List ℕ) → All (Known names) xs → All Plain (named names xs)
  named_plain = named_all Plain name_plain

  pub named_unmarked : (xs : List ℕ) → All (Known names) xs → Unmarked Parting (named names xs)
  named_unmarked = named_all (λ f. Parting f → ⊥) name_parts_nothing

  pub named_tell : (xs ys : List ℕ) → All (Known names) xs → All (Known names) ys → named names xs ≡ named names ys → xs ≡ ys
  named_tell = map_one (Known names) (λ s. get_or names s []) lawful.apart

each_named : (roster : List Name) → All (λ n. IsName (name_text n)) roster
each_named [] = tt
each_named (n ∷ ns) = (n.lawful.2, each_named ns)

module _ (roster : List Name) (steps : ℕ) (fit : Fit name_order roster steps) where
  abbrev texts : List (List ℕ)
  texts = map name_text roster

  differ : (i j : ℕ) → i < j → j < length roster → get_or texts i [] ≡ get_or texts j [] → ⊥
  differ i j l m e =
      let x = get_or roster i (name_of []) in
      let y = get_or roster j (name_of []) in
      let same : x ≡ y = same_name x y (sym (get_or-map name_text roster i (name_of []) [] (omega arith)) ∙ (e ∙ get_or-map name_text roster j (name_of []) [] m)) in
      let before : name_order x y ≡ Less = fit.0 i j (name_of []) l m in
      let equal : name_order x y ≡ Equal = ap (name_order x) (sym same) ∙ name_laws.equal_is_same x in
      let z : ◌≡◌ {A = ℕ} 0 1 = cc in
      omega arith

  pub roster_lawful : Lawful texts
  roster_lawful = record {
    are_names = λ i l. All-get_or IsName texts i [] l (All-map IsName name_text roster (each_named roster));
    apart = λ i j l m e.
        let k = length-map roster name_text in
        elim (cases_order i j) [
          | inl h ↦ h
          | inr h ↦ elim h [ inl b ↦ absurd (differ i j b (omega arith) e) | inr a ↦ absurd (differ j i a (omega arith) (sym e)) ]
        ];
  }
