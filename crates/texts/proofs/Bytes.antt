-- What a byte is, by what it is told to be. Assumes nothing.
use Rattle.std.proofs.Common.{◌≡◌, ℕ, Bool, true, false, cond, eqb, List, [], ◌∷◌, ◌++◌, refl}
use Rattle.std.proofs.lemmas.Bool.{eqb-true, and_parts, and_from}
use Rattle.steps.specs.Ranges.{name_byte, name_bytes}
use Rattle.texts.specs.Tokens.{letter, space, line_end, odd, byte_of}

told_letter : (x y z : Bool) → cond x letter (cond y space (cond z line_end odd)) ≡ letter → x ≡ true
told_letter true y z e = refl
told_letter false true z e = cc
told_letter false false true e = cc
told_letter false false false e = cc

told_space : (x y z : Bool) → cond x letter (cond y space (cond z line_end odd)) ≡ space → y ≡ true
told_space x true z e = refl
told_space true false z e = cc
told_space false false true e = cc
told_space false false false e = cc

told_line_end : (x y z : Bool) → cond x letter (cond y space (cond z line_end odd)) ≡ line_end → z ≡ true
told_line_end x y true e = refl
told_line_end true y false e = cc
told_line_end false true false e = cc
told_line_end false false false e = cc

pub letter_is : (b : ℕ) → byte_of b ≡ letter → name_byte b ≡ true
letter_is b e = told_letter (name_byte b) (eqb b 32) (eqb b 10) e

pub space_is : (b : ℕ) → byte_of b ≡ space → b ≡ 32
space_is b e = eqb-true b 32 (told_space (name_byte b) (eqb b 32) (eqb b 10) e)

pub line_end_is : (b : ℕ) → byte_of b ≡ line_end → b ≡ 10
line_end_is b e = eqb-true b 10 (told_line_end (name_byte b) (eqb b 32) (eqb b 10) e)

pub name_bytes_push : (bs : List ℕ) (b : ℕ) → name_bytes bs ≡ true → name_byte b ≡ true → name_bytes (bs ++ b ∷ []) ≡ true
name_bytes_push [] b h e = and_from (name_byte b) true e refl
name_bytes_push (c ∷ bs) b h e = let p = and_parts (name_byte c) (name_bytes bs) h in and_from (name_byte c) (name_bytes (bs ++ b ∷ [])) p.0 (name_bytes_push bs b p.1 e)
