-- The name with a given text
use Rattle.std.specs.Prelude.{◌≡◌, ℕ, ◌+◌, ◌-◌, Bool, true, false, ◌&&◌, List, [], ◌∷◌, ◌++◌, length, replicate, nat_le, refl}
use Rattle.std.proofs.Common.{sym, ap, subst, ◌∙◌, arith}
use Rattle.std.proofs.lemmas.List.{length-append, length-replicate, take_at, drop_at}
use Rattle.std.proofs.lemmas.Bool.{leb-true, and_parts}
use Rattle.steps.specs.declared.names.Name.{Name}
use Rattle.steps.specs.Ranges.{IsName, name_bytes}

-- whether a text is a name's
abbrev pub is_name : List ℕ → Bool
is_name bs = nat_le 1 (length bs) && (nat_le (length bs) 8 && name_bytes bs)

pub is_name_lem : (bs : List ℕ) → is_name bs ≡ true → IsName bs
is_name_lem bs e =
    let p = and_parts (nat_le 1 (length bs)) (nat_le (length bs) 8 && name_bytes bs) e in
    let q = and_parts (nat_le (length bs) 8) (name_bytes bs) p.1 in
    (leb-true 1 (length bs) p.0, leb-true (length bs) 8 q.0, q.1)

-- the name of a name's text
abbrev pub named : (bs : List ℕ) → IsName bs → Name
named bs h = record {
  bytes = bs ++ replicate (8 - length bs) 0;
  len = length bs;
  lawful = (
    length-append bs (replicate (8 - length bs) 0) ∙ ap (λ n. length bs + n) (length-replicate (8 - length bs) 0) ∙ omega arith,
    h.1,
    subst IsName (sym (take_at bs (replicate (8 - length bs) 0) (length bs) refl)) h,
    drop_at bs (replicate (8 - length bs) 0) (length bs) refl,
  );
}

abbrev pub chosen : (bs : List ℕ) (b : Bool) → is_name bs ≡ b → Name
chosen bs true e = named bs (is_name_lem bs e)
chosen bs false e = named (65 ∷ []) (is_name_lem (65 ∷ []) refl)

-- the name with this text, where it is a name's (elsewhere any name serves, and none is ever asked for)
unfoldable pub name_of : List ℕ → Name
name_of bs = chosen bs (is_name bs) refl
