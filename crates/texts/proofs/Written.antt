-- Jobs written out, at the end. Assumes nothing.
use Rattle.std.proofs.Common.{◌≡◌, List, [], ◌∷◌, ◌++◌, sym, refl, ap, ◌∙◌, append_assoc, append-nil}
use Rattle.steps.specs.declared.names.Name.{Name}
use Rattle.steps.specs.Kinds.{name_text}
use Rattle.texts.specs.Reading.{spaced, line, written}

-- one name more, with its space
pub spaced_push : (ns : List Name) (n : Name) → spaced (ns ++ n ∷ []) ≡ spaced ns ++ (name_text n ++ (32 ∷ []))
spaced_push [] n = refl
spaced_push (m ∷ ns) n = ap (λ t. name_text m ++ (32 ∷ t)) (spaced_push ns n) ∙ sym (append_assoc (name_text m) (32 ∷ spaced ns) (name_text n ++ (32 ∷ [])))

-- a line by its last name
pub line_push : (ns : List Name) (n : Name) → line (ns ++ n ∷ []) ≡ spaced ns ++ (name_text n ++ (10 ∷ []))
line_push [] n = refl
line_push (m ∷ []) n = sym (append_assoc (name_text m) (32 ∷ []) (name_text n ++ (10 ∷ [])))
line_push (m ∷ (k ∷ ns)) n = ap (λ t. name_text m ++ (32 ∷ t)) (line_push (k ∷ ns) n) ∙ sym (append_assoc (name_text m) (32 ∷ spaced (k ∷ ns)) (name_text n ++ (10 ∷ [])))

-- one job more
pub written_push : (js : List (List Name)) (j : List Name) → written (js ++ j ∷ []) ≡ written js ++ line j
written_push [] j = append-nil (line j)
written_push (i ∷ js) j = ap (λ t. line i ++ t) (written_push js j) ∙ sym (append_assoc (line i) (written js) (line j))
