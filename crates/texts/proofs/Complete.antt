-- A reading of a text is what its scan tells. Assumes nothing.
use Rattle.std.proofs.Common.{◌≡◌, ℕ, suc, ◌+◌, ◌<◌, ◌≤◌, true, cond, ltb, ◌⊎◌, List, [], ◌∷◌, ◌++◌, length, get_or, take, drop, sym, refl, ap, ◌∙◌, inl, inr, ⊎_elim, append_assoc, append-nil, arith}
use Rattle.std.proofs.lemmas.List.{length-append, length_push, length-take-le, take-append-drop, take_at, drop_at}
use Rattle.std.proofs.lemmas.Bool.{cond-false, le-ltb, and_parts, cases_lt}
use Rattle.steps.specs.declared.names.Name.{Name}
use Rattle.steps.specs.Kinds.{name_text}
use Rattle.steps.specs.Ranges.{name_byte, name_bytes}
use Rattle.steps.proofs.Naming.{name_of_name}
use Rattle.trails.specs.declared.endings.Cause.{Cause}
use Rattle.trails.specs.declared.endings.Cause.TheVariants.{OutOfTurn, JobSize, WordsRunOut, EndBits, OddByte, NinthByte, NameDue, CutLine}
use Rattle.trails.specs.Jobs.{Ending}
use Rattle.std.specs.Prelude.{None as End, Some as Fault}
use Rattle.trails.specs.Jobs.{SizedTo}
use Rattle.trails.specs.Told.{Told, faulty, first, after}
use Rattle.texts.specs.Tokens.{letter, space, line_end, odd, run}
use Rattle.texts.specs.Scan.{turn, scan}
use Rattle.texts.specs.Sizes.{Fits}
use Rattle.texts.specs.Reading.{spaced, line, written, Stands, ReadingTo}
use Rattle.texts.proofs.Turns.{scan_letters, space_turn, line_turn, ninth_turn, cut, scan_at, scan_end}

run_exact : (xs q : List ℕ) → name_bytes xs ≡ true → run (length xs) (xs ++ q) ≡ length xs
run_exact [] q h = refl
run_exact (x ∷ xs) q h =
    let p = and_parts (name_byte x) (name_bytes xs) h in
    ap (λ b. cond b (suc (run (length xs) (xs ++ q))) 0) p.0 ∙ ap suc (run_exact xs q p.1)

module _ (most : ℕ) where
  -- the bytes of a name
  letters : (xs q : List ℕ) (i : ℕ) (had : List Name) (tail : List ℕ) → name_bytes xs ≡ true → length tail + length xs ≤ 8 → (1 ≤ length tail) ⊎ (length had < most) → scan most (xs ++ q) i had tail ≡ scan most q (i + length xs) had (tail ++ xs)
  letters xs q i had tail named short room =
      scan_letters most (length xs) (xs ++ q) i had tail short room
      ∙ ap (λ r. scan most (drop r (xs ++ q)) (i + r) had (tail ++ take r (xs ++ q))) (run_exact xs q named)
      ∙ ap (λ t. scan most t (i + length xs) had (tail ++ take (length xs) (xs ++ q))) (drop_at xs q (length xs) refl)
      ∙ ap (λ t. scan most q (i + length xs) had (tail ++ t)) (take_at xs q (length xs) refl)

  -- a name and its space
  name_space : (n : Name) (q : List ℕ) (i : ℕ) (had : List Name) → length had < most → scan most (name_text n ++ (32 ∷ q)) i had [] ≡ scan most q (i + length (name_text n) + 1) (had ++ n ∷ []) []
  unfolding scan
  name_space n q i had room =
      letters (name_text n) (32 ∷ q) i had [] n.lawful.2.2 (omega (arith, n.lawful.2.1)) (inr room)
      ∙ space_turn most 32 (i + length (name_text n)) had (name_text n) (scan most q (i + length (name_text n) + 1)) n.lawful.2.0
      ∙ ap (λ m. scan most q (i + length (name_text n) + 1) (had ++ m ∷ []) []) (name_of_name n)

  -- a name and the line end
  name_line : (n : Name) (q : List ℕ) (i : ℕ) (had : List Name) → length had < most → scan most (name_text n ++ (10 ∷ q)) i had [] ≡ first (had ++ n ∷ []) (scan most q (i + length (name_text n) + 1) [] [])
  unfolding scan
  name_line n q i had room =
      letters (name_text n) (10 ∷ q) i had [] n.lawful.2.2 (omega (arith, n.lawful.2.1)) (inr room)
      ∙ line_turn most 10 (i + length (name_text n)) had (name_text n) (scan most q (i + length (name_text n) + 1)) n.lawful.2.0
      ∙ ap (λ m. first (had ++ m ∷ []) (scan most q (i + length (name_text n) + 1) [] [])) (name_of_name n)

  spaced_run : (ns : List Name) (q : List ℕ) (i : ℕ) (had : List Name) → length had + length ns ≤ most → scan most (spaced ns ++ q) i had [] ≡ scan most q (i + length (spaced ns)) (had ++ ns) []
  spaced_run [] q i had h = ap (λ j. scan most q j had []) (omega arith) ∙ ap (λ ns. scan most q (i + 0) ns []) (sym (append-nil had))
  spaced_run (n ∷ ns) q i had h =
      let place : i + length (name_text n) + 1 + length (spaced ns) ≡ i + length (spaced (n ∷ ns)) = omega (arith, length-append (name_text n) (32 ∷ spaced ns)) in
      ap (λ t. scan most t i had []) (append_assoc (name_text n) (32 ∷ spaced ns) q)
      ∙ name_space n (spaced ns ++ q) i had (omega arith)
      ∙ spaced_run ns q (i + length (name_text n) + 1) (had ++ n ∷ []) (omega (arith, length_push had n))
      ∙ ap (λ j. scan most q j ((had ++ n ∷ []) ++ ns) []) place
      ∙ ap (λ ms. scan most q (i + length (spaced (n ∷ ns))) ms []) (append_assoc had (n ∷ []) ns)

  line_run : (j : List Name) (q : List ℕ) (i : ℕ) (had : List Name) → 1 ≤ length j → length had + length j ≤ most → scan most (line j ++ q) i had [] ≡ first (had ++ j) (scan most q (i + length (line j)) [] [])
  line_run [] q i had some h = absurd (omega arith)
  line_run (n ∷ []) q i had some h =
      let place : i + length (name_text n) + 1 ≡ i + length (line (n ∷ [])) = omega (arith, length-append (name_text n) (10 ∷ [])) in
      ap (λ t. scan most t i had []) (append_assoc (name_text n) (10 ∷ []) q)
      ∙ name_line n q i had (omega arith)
      ∙ ap (λ k. first (had ++ n ∷ []) (scan most q k [] [])) place
  line_run (n ∷ (m ∷ ns)) q i had some h =
      let place : i + length (name_text n) + 1 + length (line (m ∷ ns)) ≡ i + length (line (n ∷ (m ∷ ns))) = omega (arith, length-append (name_text n) (32 ∷ line (m ∷ ns))) in
      ap (λ t. scan most t i had []) (append_assoc (name_text n) (32 ∷ line (m ∷ ns)) q)
      ∙ name_space n (line (m ∷ ns) ++ q) i had (omega arith)
      ∙ line_run (m ∷ ns) q (i + length (name_text n) + 1) (had ++ n ∷ []) (omega arith) (omega (arith, length_push had n))
      ∙ ap (λ k. first ((had ++ n ∷ []) ++ (m ∷ ns)) (scan most q k [] [])) place
      ∙ ap (λ ms. first ms (scan most q (i + length (line (n ∷ (m ∷ ns)))) [] [])) (append_assoc had (n ∷ []) (m ∷ ns))

  pub written_run : (js : List (List Name)) (q : List ℕ) (i : ℕ) → SizedTo most js → scan most (written js ++ q) i [] [] ≡ after js (scan most q (i + length (written js)) [] [])
  written_run [] q i s = ap (λ j. scan most q j [] []) (omega arith)
  written_run (j ∷ js) q i s =
      let place : i + length (line j) + length (written js) ≡ i + length (written (j ∷ js)) = omega (arith, length-append (line j) (written js)) in
      ap (λ t. scan most t i [] []) (append_assoc (line j) (written js) q)
      ∙ line_run j (written js ++ q) i [] s.0 (omega (arith, s.1))
      ∙ ap (first j) (written_run js q (i + length (line j)) s.2)
      ∙ ap (λ k. first j (after js (scan most q k [] []))) place

  -- jobs written out and a line begun
  begun_run : (js : List (List Name)) (names : List Name) (tail q : List ℕ) → SizedTo most js → Fits most names tail → length tail ≤ 8 → name_bytes tail ≡ true
      → scan most ((written js ++ (spaced names ++ tail)) ++ q) 0 [] [] ≡ after js (scan most q (length (written js ++ (spaced names ++ tail))) names tail)
  begun_run js names tail q s f short named =
      let p = length (written js) in
      let place : 0 + p + length (spaced names) + length tail ≡ length (written js ++ (spaced names ++ tail)) = omega (arith, length-append (written js) (spaced names ++ tail), length-append (spaced names) tail) in
      ap (λ t. scan most t 0 [] []) (append_assoc (written js) (spaced names ++ tail) q ∙ ap (λ t. written js ++ t) (append_assoc (spaced names) tail q))
      ∙ written_run js (spaced names ++ (tail ++ q)) 0 s
      ∙ ap (after js) (spaced_run names (tail ++ q) (0 + p) [] (omega (arith, f.0)) ∙ tail_run (0 + p + length (spaced names)) tail f short named)
      ∙ ap (λ k. after js (scan most q k names tail)) place
    where
      tail_run : (j : ℕ) (t : List ℕ) → Fits most names t → length t ≤ 8 → name_bytes t ≡ true → scan most (t ++ q) j names [] ≡ scan most q (j + length t) names t
      tail_run j [] g h e = ap (λ k. scan most q k names []) (omega arith)
      tail_run j (c ∷ cs) g h e = letters (c ∷ cs) q j names [] e (omega arith) (inr (g.1 (omega arith)))

  -- what stands at i stops the scan there
  halts : (text : List ℕ) (i : ℕ) (names : List Name) (tail : List ℕ) (c : Cause) → Stands most c text i names tail → scan most (drop i text) i names tail ≡ faulty c i
  halts text i names tail JobSize (h, e, empty, full) =
      scan_at most text i names tail letter h e ∙ ap (λ t. turn most letter (get_or text i 0) i names t (scan most (drop (i + 1) text) (i + 1))) empty ∙ cond-false (ltb (length names) most) _ _ (le-ltb (length names) most (omega arith))
  halts text i names tail OddByte (h, e) = scan_at most text i names tail odd h e
  halts text i names tail NinthByte (h, e, full) = scan_at most text i names tail letter h e ∙ ninth_turn most (get_or text i 0) i names tail (scan most (drop (i + 1) text) (i + 1)) (omega arith)
  halts text i names tail NameDue (h, inl e, empty) = scan_at most text i names tail space h e ∙ ap (λ t. turn most space (get_or text i 0) i names t (scan most (drop (i + 1) text) (i + 1))) empty
  halts text i names tail NameDue (h, inr e, empty) = scan_at most text i names tail line_end h e ∙ ap (λ t. turn most line_end (get_or text i 0) i names t (scan most (drop (i + 1) text) (i + 1))) empty
  halts text i names tail CutLine (last, some) = scan_end most text i names tail (omega arith) ∙ cut i names tail (⊎_elim (λ none. inr (omega arith)) inl (cases_lt (length names) 1))
  halts text i names tail OutOfTurn none = absurd none
  halts text i names tail WordsRunOut none = absurd none
  halts text i names tail EndBits none = absurd none

  pub complete : (text : List ℕ) (js : List (List Name)) (e : Ending) → ReadingTo most text js e → scan most text 0 [] [] ≡ record { jobs = js; ending = e }
  unfolding scan
  complete text js End (s, is) =
      ap (λ t. scan most t 0 [] []) (is ∙ sym (append-nil (written js))) ∙ written_run js [] 0 s ∙ ap {B = Told Name} (λ ks. record { jobs = ks; ending = End }) (append-nil js)
  complete text js (Fault f) (names, tail, r, stands) =
      let i = f.place in
      let begun = written js ++ (spaced names ++ tail) in
      let long : length begun ≡ i = ap length (sym r.up_to) ∙ length-take-le i text r.within in
      ap (λ t. scan most t 0 [] []) (sym (take-append-drop i text) ∙ ap (λ t. t ++ drop i text) r.up_to)
      ∙ begun_run js names tail (drop i text) r.sized r.fits r.short r.named
      ∙ ap (λ k. after js (scan most (drop i text) k names tail)) long
      ∙ ap (after js) (halts text i names tail f.cause stands)
      ∙ ap {B = Told Name} (λ ks. record { jobs = ks; ending = Fault f }) (append-nil js)
