-- A name has the text that it is made of. Assumes nothing.
use Rattle.std.proofs.Common.{◌≡◌, ℕ, ◌-◌, Bool, true, false, ◌&&◌, leb, List, length, replicate, refl, arith}
use Rattle.std.proofs.lemmas.List.{take_at}
use Rattle.std.proofs.lemmas.Bool.{le-leb, and_from}
use Rattle.steps.specs.declared.names.Name.{Name}
use Rattle.steps.specs.Ranges.{IsName, name_bytes}
use Rattle.steps.specs.Kinds.{name_text}
use Rattle.steps.specs.Making.{is_name, chosen, name_of}
use Rattle.steps.specs.Alike.{same_name}

pub name_of_text : (bs : List ℕ) → IsName bs → name_text (name_of bs) ≡ bs
unfolding name_of
name_of_text bs h = by (is_name bs) refl
  where
    tests : is_name bs ≡ true
    tests = and_from (leb 1 (length bs)) (leb (length bs) 8 && name_bytes bs) (le-leb 1 (length bs) h.0) (and_from (leb (length bs) 8) (name_bytes bs) (le-leb (length bs) 8 h.1) h.2)

    by : (b : Bool) (e : is_name bs ≡ b) → name_text (chosen bs b e) ≡ bs
    by true e = take_at bs (replicate (8 - length bs) 0) (length bs) refl
    by false e = let t = tests in let z : ◌≡◌ {A = ℕ} 0 1 = cc in absurd (omega arith)

pub name_of_name : (n : Name) → name_of (name_text n) ≡ n
name_of_name n = same_name (name_of (name_text n)) n (name_of_text (name_text n) n.lawful.2)
