-- One token more of a line. Assumes nothing.
use Rattle.std.proofs.Common.{◌≡◌, ℕ, zero, suc, ◌+◌, ◌<◌, ◌≤◌, Bool, true, false, cond, eqb, ltb, ◌⊎◌, List, [], ◌∷◌, ◌++◌, length, get_or, take, drop, sym, refl, ap, ◌∙◌, inl, inr, append_assoc, append-nil, add-zero, arith}
use Rattle.std.proofs.lemmas.List.{drop_more, drop_all, length_push}
use Rattle.std.proofs.lemmas.Bool.{cond-true, cond-false, lt-ltb, le-ltb}
use Rattle.steps.specs.declared.names.Name.{Name}
use Rattle.steps.specs.Making.{name_of}
use Rattle.steps.specs.Ranges.{name_byte}
use Rattle.trails.specs.declared.endings.Cause.TheVariants.{NinthByte, CutLine}
use Rattle.trails.specs.Told.{Told, faulty, first}
use Rattle.texts.specs.Tokens.{Byte, letter, space, line_end, odd, byte_of, run}
use Rattle.texts.specs.Scan.{turn, stop, scan}

-- a name byte
pub is_letter : (b : ℕ) → name_byte b ≡ true → byte_of b ≡ letter
is_letter b e = ap (λ x. cond x letter (cond (eqb b 32) space (cond (eqb b 10) line_end odd))) e

-- the turn of a name byte for which there is room
pub one_letter : (most : ℕ) (b i : ℕ) (had : List Name) (tail : List ℕ) (k : List Name → List ℕ → Told Name) → name_byte b ≡ true → length tail < 8 → (1 ≤ length tail) ⊎ (length had < most) → turn most (byte_of b) b i had tail k ≡ k had (tail ++ b ∷ [])
one_letter most b i had [] k e h (inl r) = absurd (omega arith)
one_letter most b i had [] k e h (inr r) = ap (λ y. turn most y b i had [] k) (is_letter b e) ∙ cond-true (ltb (length had) most) _ _ (lt-ltb (length had) most r)
one_letter most b i had (t ∷ ts) k e h r = ap (λ y. turn most y b i had (t ∷ ts) k) (is_letter b e) ∙ cond-true (ltb (length (t ∷ ts)) 8) _ _ (lt-ltb (length (t ∷ ts)) 8 h)

none_taken : (most : ℕ) (bs : List ℕ) (i : ℕ) (had : List Name) (tail : List ℕ) → scan most bs i had tail ≡ scan most bs (i + 0) had (tail ++ [])
none_taken most bs i had tail = ap (λ j. scan most bs j had tail) (sym (add-zero i)) ∙ ap (scan most bs (i + 0) had) (sym (append-nil tail))

-- a run of name bytes goes to the name that is begun
pub scan_letters : (most : ℕ) (m : ℕ) (bs : List ℕ) (i : ℕ) (had : List Name) (tail : List ℕ) → length tail + m ≤ 8 → (1 ≤ length tail) ⊎ (length had < most)
    → scan most bs i had tail ≡ scan most (drop (run m bs) bs) (i + run m bs) had (tail ++ take (run m bs) bs)
unfolding scan
scan_letters most zero bs i had tail h room = none_taken most bs i had tail
scan_letters most (suc m) [] i had tail h room = none_taken most [] i had tail
scan_letters most (suc m) (b ∷ bs) i had tail h room = by (name_byte b) refl (scan_letters most m bs (i + 1) had (tail ++ b ∷ []))
  where
    by : (x : Bool) → name_byte b ≡ x
        → (length (tail ++ b ∷ []) + m ≤ 8 → (1 ≤ length (tail ++ b ∷ [])) ⊎ (length had < most) → scan most bs (i + 1) had (tail ++ b ∷ []) ≡ scan most (drop (run m bs) bs) (i + 1 + run m bs) had ((tail ++ b ∷ []) ++ take (run m bs) bs))
        → scan most (b ∷ bs) i had tail ≡ scan most (drop (cond x (suc (run m bs)) 0) (b ∷ bs)) (i + cond x (suc (run m bs)) 0) had (tail ++ take (cond x (suc (run m bs)) 0) (b ∷ bs))
    by true e more =
        let long : length (tail ++ b ∷ []) ≡ length tail + 1 = length_push tail b in
        let place : i + 1 + run m bs ≡ i + suc (run m bs) = omega arith in
        one_letter most b i had tail (scan most bs (i + 1)) e (omega arith) room
        ∙ more (omega arith) (inl (omega arith))
        ∙ ap (λ j. scan most (drop (run m bs) bs) j had ((tail ++ b ∷ []) ++ take (run m bs) bs)) place
        ∙ ap (scan most (drop (run m bs) bs) (i + suc (run m bs)) had) (append_assoc tail (b ∷ []) (take (run m bs) bs))
    by false e more = none_taken most (b ∷ bs) i had tail

-- turns where a name is begun
pub space_turn : (most : ℕ) (b i : ℕ) (had : List Name) (tail : List ℕ) (k : List Name → List ℕ → Told Name) → 1 ≤ length tail → turn most space b i had tail k ≡ k (had ++ name_of tail ∷ []) []
space_turn most b i had [] k h = absurd (omega arith)
space_turn most b i had (t ∷ ts) k h = refl

pub line_turn : (most : ℕ) (b i : ℕ) (had : List Name) (tail : List ℕ) (k : List Name → List ℕ → Told Name) → 1 ≤ length tail → turn most line_end b i had tail k ≡ first (had ++ name_of tail ∷ []) (k [] [])
line_turn most b i had [] k h = absurd (omega arith)
line_turn most b i had (t ∷ ts) k h = refl

pub ninth_turn : (most : ℕ) (b i : ℕ) (had : List Name) (tail : List ℕ) (k : List Name → List ℕ → Told Name) → 8 ≤ length tail → turn most letter b i had tail k ≡ faulty NinthByte i
ninth_turn most b i had [] k h = absurd (omega arith)
ninth_turn most b i had (t ∷ ts) k h = cond-false (ltb (length (t ∷ ts)) 8) _ _ (le-ltb (length (t ∷ ts)) 8 h)

pub cut : (i : ℕ) (had : List Name) (tail : List ℕ) → (1 ≤ length had) ⊎ (1 ≤ length tail) → stop i had tail ≡ faulty CutLine i
cut i [] [] (inl h) = absurd (omega arith)
cut i [] [] (inr h) = absurd (omega arith)
cut i [] (t ∷ ts) h = refl
cut i (n ∷ ns) tail h = refl

-- the byte at an offset decides
pub scan_at : (most : ℕ) (text : List ℕ) (i : ℕ) (had : List Name) (tail : List ℕ) (y : Byte) → i < length text → byte_of (get_or text i 0) ≡ y → scan most (drop i text) i had tail ≡ turn most y (get_or text i 0) i had tail (scan most (drop (i + 1) text) (i + 1))
unfolding scan
scan_at most text i had tail y h e = ap (λ s. scan most s i had tail) (drop_more text i 0 h) ∙ ap (λ x. turn most x (get_or text i 0) i had tail (scan most (drop (i + 1) text) (i + 1))) e

pub scan_end : (most : ℕ) (text : List ℕ) (i : ℕ) (had : List Name) (tail : List ℕ) → length text ≤ i → scan most (drop i text) i had tail ≡ stop i had tail
unfolding scan
scan_end most text i had tail h = ap (λ s. scan most s i had tail) (drop_all i text h)
