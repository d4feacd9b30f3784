-- A line as far as it was read, token by token. Assumes nothing.
use Rattle.std.proofs.Common.{Some, None, ◌≡◌, ℕ, ◌+◌, ◌<◌, ◌≤◌, Bool, true, false, ltb, List, [], ◌∷◌, ◌++◌, length, get_or, take, drop, set, sym, refl, ap, ◌∙◌, subst, inl, inr, ⊎_elim, arith, Bor}
use Rattle.std.proofs.lemmas.List.{drop-drop, length-drop, length-take-le, get_or-drop, take_more_set}
use Rattle.std.proofs.lemmas.Bool.{cond-false, le-ltb, cases_lt}
use Rattle.steps.specs.declared.names.Name.{Name}
use Rattle.steps.specs.Kinds.{name_text}
use Rattle.steps.specs.Making.{name_of}
use Rattle.steps.specs.Ranges.{IsName, name_byte}
use Rattle.steps.proofs.Naming.{name_of_name}
use Rattle.trails.specs.declared.endings.Cause.{Cause}
use Rattle.trails.specs.declared.endings.Cause.TheVariants.{JobSize, OddByte, NinthByte, NameDue, CutLine}
use Rattle.trails.specs.Told.{Told, over, faulty, ended, first}
use Rattle.texts.specs.declared.tokens.Token.{Token}
use Rattle.texts.specs.declared.tokens.Token.TheVariants as token
use Rattle.texts.specs.declared.verdicts.Verdict.{Verdict}
use Rattle.texts.specs.declared.verdicts.Verdict.TheVariants.{Take, Gap, Close, Over, Wrong}
use Rattle.texts.specs.Tokens.{letter, space, line_end, odd, byte_of, run, Read}
use Rattle.texts.specs.Verdicts.{Judged, Spelled, Faults, Takes}
use Rattle.texts.specs.Scan.{stop, scan, from}
use Rattle.texts.proofs.Runs.{Running, running, run_starts}
use Rattle.texts.proofs.Turns.{is_letter, scan_letters, space_turn, line_turn, ninth_turn, cut, scan_at, scan_end}

-- The line at `at` was read up to the offset i and has these names; either a name is due there, or the last of the names ends there
abbrev pub Sofar : List ℕ → ℕ → ℕ → Bool → List Name → Type 0
Sofar text at i true names = from text at ≡ scan 1000 (drop i text) i names []
Sofar text at i false names =
    (had : List Name) × (n : Name) × (names ≡ had ++ n ∷ []) × (from text at ≡ scan 1000 (drop i text) i had (name_text n))
    × (length (name_text n) < 8 → i < length text → name_byte (get_or text i 0) ≡ false)

-- where the line stands after a token that was read from i to j
abbrev pub Outcome : List ℕ → ℕ → ℕ → ℕ → List Name → Verdict → Type 0
Outcome text at i j names (Take n) = (length names < 1000) × (i < j) × Sofar text at j false (names ++ n ∷ [])
Outcome text at i j names Gap = (i < j) × Sofar text at j true names
Outcome text at i j names Close = from text at ≡ first names (from text j)
Outcome text at i j names Over = from text at ≡ over None
Outcome text at i j names (Wrong f) = from text at ≡ over (Some f)

module _ (text : List ℕ) (at i j : ℕ) (names : List Name) where
  -- a verdict that stops at a fault
  faulted : (v : Verdict) (cause : Cause) (place : ℕ) → place ≡ i → Faults v cause place → from text at ≡ faulty cause i → Outcome text at i j names v
  faulted v cause place p f t =
      subst (Outcome text at i j names) (sym f) (t ∙ ap {B = Told Name} (λ k. faulty cause k) (sym p))

  -- a name token, of r bytes
  module _ (k : ℕ) (bytes : Bor (List ℕ)) (read : Read text i j (token.Name k bytes)) where
    ran : Running 8 (drop i text) (run 8 (drop i text))
    ran = running 8 (drop i text)

    pub spelled : IsName bytes.now
    spelled =
        let long : length (take (run 8 (drop i text)) (drop i text)) ≡ run 8 (drop i text) = length-take-le (run 8 (drop i text)) (drop i text) ran.within in
        subst IsName (sym read.2) (omega (arith, long, read.1), omega (arith, long, ran.bound), ran.named)

    taken : (n : Name) → name_text n ≡ bytes.now → length names < 1000 → Sofar text at i true names → Outcome text at i j names (Take n)
    taken n e room s =
        let r = run 8 (drop i text) in
        let is : name_text n ≡ take r (drop i text) = e ∙ read.2 in
        let long : length (take r (drop i text)) ≡ r = length-take-le r (drop i text) ran.within in
        let rest : drop r (drop i text) ≡ drop j text = drop-drop r i text ∙ ap (λ m. drop m text) (sym read.3) in (
          room,
          omega (arith, read.1, read.3),
          (
            names,
            n,
            refl,
            s ∙ scan_letters 1000 8 (drop i text) i names [] (omega arith) (inr room) ∙ ap (λ t. scan 1000 t (i + r) names (take r (drop i text))) rest ∙ ap (λ m. scan 1000 (drop j text) m names (take r (drop i text))) (sym read.3) ∙ ap (scan 1000 (drop j text) j names) (sym is),
            λ short inside.
                let here : get_or (drop i text) r 0 ≡ get_or text j 0 = get_or-drop i text r 0 ∙ ap (λ m. get_or text m 0) (sym read.3) in
                ap name_byte (sym here) ∙ ran.longest (omega (arith, long, ap length is)) (omega (arith, length-drop i text, read.3)),
          ),
        )

    crowded : length names ≡ 1000 → Sofar text at i true names → from text at ≡ faulty JobSize i
    crowded full s =
        let start = run_starts text i 8 read.1 in
        s ∙ scan_at 1000 text i names [] letter start.0 (is_letter (get_or text i 0) start.1) ∙ cond-false (ltb (length names) 1000) _ _ (le-ltb (length names) 1000 (omega arith))

    ninth : Sofar text at i false names → from text at ≡ faulty NinthByte i
    ninth (had, n, ends, s, longest) =
        let start = run_starts text i 8 read.1 in
        let full : 8 ≤ length (name_text n) = ⊎_elim (λ short. absurd (differ (sym start.1 ∙ longest short start.0))) (λ le. le) (cases_lt (length (name_text n)) 8) in
        s ∙ scan_at 1000 text i had (name_text n) letter start.0 (is_letter (get_or text i 0) start.1) ∙ ninth_turn 1000 (get_or text i 0) i had (name_text n) _ full
      where
        differ : true ≡ false → ⊥
        differ z = let o : ◌≡◌ {A = ℕ} 0 1 = cc in omega arith

  -- a space or a line end after a name, or where one is due
  gapped : i < length text → byte_of (get_or text i 0) ≡ space → j ≡ i + 1 → Sofar text at i false names → Outcome text at i j names Gap
  gapped h e next (had, n, ends, s, longest) = (
    omega arith,
    s ∙ scan_at 1000 text i had (name_text n) space h e ∙ space_turn 1000 (get_or text i 0) i had (name_text n) _ n.lawful.2.0
        ∙ ap (λ m. scan 1000 (drop m text) m (had ++ name_of (name_text n) ∷ []) []) (sym next) ∙ ap (λ m. scan 1000 (drop j text) j (had ++ m ∷ []) []) (name_of_name n) ∙ ap (λ ns. scan 1000 (drop j text) j ns []) (sym ends),
  )

  closed : i < length text → byte_of (get_or text i 0) ≡ line_end → j ≡ i + 1 → Sofar text at i false names → Outcome text at i j names Close
  closed h e next (had, n, ends, s, longest) =
      s ∙ scan_at 1000 text i had (name_text n) line_end h e ∙ line_turn 1000 (get_or text i 0) i had (name_text n) _ n.lawful.2.0
      ∙ ap (λ m. first (had ++ name_of (name_text n) ∷ []) (from text m)) (sym next) ∙ ap (λ m. first (had ++ m ∷ []) (from text j)) (name_of_name n) ∙ ap (λ ns. first ns (from text j)) (sym ends)

  space_due : i < length text → byte_of (get_or text i 0) ≡ space → Sofar text at i true names → from text at ≡ faulty NameDue i
  space_due h e s = s ∙ scan_at 1000 text i names [] space h e

  line_due : i < length text → byte_of (get_or text i 0) ≡ line_end → Sofar text at i true names → from text at ≡ faulty NameDue i
  line_due h e s = s ∙ scan_at 1000 text i names [] line_end h e

  odd_byte : (due : Bool) → i < length text → byte_of (get_or text i 0) ≡ odd → Sofar text at i due names → from text at ≡ faulty OddByte i
  odd_byte true h e s = s ∙ scan_at 1000 text i names [] odd h e
  odd_byte false h e (had, n, ends, s, longest) = s ∙ scan_at 1000 text i had (name_text n) odd h e

  cut_due : i ≡ length text → 1 ≤ length names → Sofar text at i true names → from text at ≡ faulty CutLine i
  cut_due h some s = s ∙ scan_end 1000 text i names [] (omega arith) ∙ cut i names [] (inl some)

  cut_name : i ≡ length text → Sofar text at i false names → from text at ≡ faulty CutLine i
  cut_name h (had, n, ends, s, longest) = s ∙ scan_end 1000 text i had (name_text n) (omega arith) ∙ cut i had (name_text n) (inr n.lawful.2.0)

  -- the verdict on a token says where the line stands after it
  pub step : (t : Token) (due : Bool) (v : Verdict) → Read text i j t → length names ≤ 1000 → Judged t due (length names) v → Sofar text at i due names → Outcome text at i j names v
  step (token.Name k bytes) true v read few judged s =
      ⊎_elim (λ room. by v (judged.1 room) room) (λ full. let e : length names ≡ 1000 = omega arith in faulted v JobSize k read.0 (judged.0 e) (crowded k bytes read e s)) (cases_lt (length names) 1000)
    where
      by : (w : Verdict) → Takes w bytes.now → length names < 1000 → Outcome text at i j names w
      by (Take n) e room = taken k bytes read n e room s
      by Gap e room = absurd e
      by Close e room = absurd e
      by Over e room = absurd e
      by (Wrong x) e room = absurd e
  step (token.Name k bytes) false v read few judged s = faulted v NinthByte k read.0 judged (ninth k bytes read s)
  step (token.Space k) true v read few judged s = faulted v NameDue k read.0 judged (space_due read.1 read.2 s)
  step (token.Space k) false v read few judged s = subst (Outcome text at i j names) (sym judged) (gapped read.1 read.2 read.3 s)
  step (token.LineEnd k) true v read few judged s = faulted v NameDue k read.0 judged (line_due read.1 read.2 s)
  step (token.LineEnd k) false v read few judged s = subst (Outcome text at i j names) (sym judged) (closed read.1 read.2 read.3 s)
  step (token.Odd k) due v read few judged s = faulted v OddByte k read.0 judged (odd_byte due read.1 read.2 s)
  step (token.End k) true v read few judged s =
      ⊎_elim (λ none. let e : length names ≡ 0 = omega arith in subst (Outcome text at i j names) (sym (judged.0 e)) (s ∙ scan_end 1000 text i names [] (omega (arith, read.1)) ∙ nothing names e)) (λ some. faulted v CutLine k read.0 (judged.1 some) (cut_due read.1 some s)) (cases_lt (length names) 1)
    where
      nothing : (ns : List Name) → length ns ≡ 0 → stop i ns [] ≡ ended
      nothing [] e = refl
      nothing (n ∷ ns) e = absurd (omega arith)
  step (token.End k) false v read few judged s = faulted v CutLine k read.0 judged (cut_name read.1 s)

-- what a token says of itself
pub spelled_token : (text : List ℕ) (i j : ℕ) (t : Token) → Read text i j t → Spelled t
spelled_token text i j (token.Name k bytes) read = spelled text 0 i j [] k bytes read
spelled_token text i j (token.Space k) read = tt
spelled_token text i j (token.LineEnd k) read = tt
spelled_token text i j (token.Odd k) read = tt
spelled_token text i j (token.End k) read = tt

-- one token more, with the names at the start of the work memory; `was` is the text that the lexer has
module _ (text was : List ℕ) (at i j len : ℕ) (work : List Name) (same : was ≡ text) (few : len ≤ 1000) (room : 1000 ≤ length work) where
  pub named : length (take len work) ≡ len
  named = length-take-le len work (omega arith)

  pub turned : (t : Token) (due : Bool) (v : Verdict) → Read was i j t → Judged t due len v → Sofar text at i due (take len work) → Outcome text at i j (take len work) v
  turned t due v read judged s =
      step text at i j (take len work) t due v (subst (λ x. Read x i j t) same read) (omega (arith, named)) (subst (λ n. Judged t due n v) (sym named) judged) s

  -- a name that is taken finds room, and goes to the end of the names
  pub took : (n : Name) → Outcome text at i j (take len work) (Take n) → (len < 1000) × (i < j) × Sofar text at j false (take (len + 1) (set work len n))
  took n o =
      let l : len < 1000 = omega (arith, o.0, named) in
      (l, o.1, subst (Sofar text at j false) (sym (take_more_set work len n (omega arith))) o.2)
