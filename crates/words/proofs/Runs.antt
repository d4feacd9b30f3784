-- How the reader goes over words with no fault and no end among them. Assumes nothing.
use Rattle.std.proofs.Common.{◌≡◌, ℕ, zero, suc, ◌+◌, ◌-◌, ◌<◌, ◌≤◌, ◌&&◌, leb, List, [], ◌∷◌, ◌++◌, map, length, sym, refl, ap, ◌∙◌, subst, subst₂, add-zero, arith}
use Rattle.std.proofs.lemmas.List.{append_assoc, append-nil}
use Rattle.std.proofs.lemmas.Bool.{cond-true, le-leb, and_from}
use Rattle.steps.specs.declared.codes.Code.{Code}
use Rattle.trails.specs.Jobs.{Sized}
use Rattle.words.specs.declared.kinds.Word.{Word}
use Rattle.words.specs.declared.kinds.Word.TheVariants.{Event, Head, Stop, Filler}
use Rattle.words.specs.declared.verdicts.Verdict.{Verdict}
use Rattle.words.specs.declared.verdicts.Verdict.TheVariants.{Skip, Open, Take, Last, Close, Wrong}
use Rattle.words.specs.Words.{word_of, event_word, head_word, job_words, written, unless_filler, stripped}
use Rattle.trails.specs.Told.{Told, first, after}
use Rattle.words.specs.Scan.{judge_of, turn, scan}
use Rattle.words.specs.Reading.{Whole, Begun}
use Rattle.words.proofs.Forms.{event_says, head_says}

-- the reader goes on after a verdict, to where k holds
abbrev Goes : Verdict → ℕ → List Code → List (List Code) → (ℕ → List Code → List (List Code) → Type 0) → Type 0
Goes Skip due had js k = k due had js
Goes (Open n) due had js k = k n [] js
Goes (Take c) due had js k = k (due - 1) (had ++ c ∷ []) js
Goes (Last c) due had [] k = ⊥
Goes (Last c) due had (j ∷ js) k = (j ≡ had ++ c ∷ []) × k 0 [] js
Goes Close due had js k = ⊥
Goes (Wrong cause) due had js k = ⊥

-- over the words, with due and had ahead of them, it gives the jobs js, and has d and h after them
abbrev Runs : ℕ → List Code → List ℕ → ℕ → List Code → List (List Code) → Type 0
Runs d h [] due had js = (due ≡ d) × (had ≡ h) × (js ≡ [])
Runs d h (w ∷ ws) due had js = Goes (judge_of (word_of w) due) due had js (Runs d h ws)

goes_turn : (v : Verdict) (i due : ℕ) (had : List Code) (js : List (List Code)) (k : ℕ → List Code → List (List Code) → Type 0) (s : ℕ → List Code → Told Code) (t : Told Code) → ((d : ℕ) (h : List Code) (ks : List (List Code)) → k d h ks → s d h ≡ after ks t) → Goes v due had js k → turn v i due had s ≡ after js t
goes_turn Skip i due had js k s t more g = more due had js g
goes_turn (Open n) i due had js k s t more g = more n [] js g
goes_turn (Take c) i due had js k s t more g = more (due - 1) (had ++ c ∷ []) js g
goes_turn (Last c) i due had [] k s t more g = absurd g
goes_turn (Last c) i due had (j ∷ js) k s t more g = ap (first (had ++ c ∷ [])) (more 0 [] js g.1) ∙ ap (λ x. first x (after js t)) (sym g.0)
goes_turn Close i due had js k s t more g = absurd g
goes_turn (Wrong cause) i due had js k s t more g = absurd g

scan_runs : (d : ℕ) (h : List Code) (p q : List ℕ) (i due : ℕ) (had : List Code) (js : List (List Code)) → Runs d h p due had js → scan (p ++ q) i due had ≡ after js (scan q (i + length p) d h)
unfolding scan
scan_runs d h [] q i due had js r =
    ap (λ x. scan q i x had) r.0 ∙ ap (λ x. scan q i d x) r.1 ∙ ap (λ x. scan q x d h) (sym (add-zero i)) ∙ ap (λ x. after x (scan q (i + 0) d h)) (sym r.2)
scan_runs d h (w ∷ p) q i due had js r =
    goes_turn (judge_of (word_of w) due) i due had js (Runs d h p) (scan (p ++ q) (i + 1)) (scan q (i + length (w ∷ p)) d h)
    (λ a b ks g. scan_runs d h p q (i + 1) a b ks g ∙ ap (λ x. after ks (scan q x d h)) (omega arith)) r

goes_on : (v : Verdict) (due : ℕ) (had : List Code) (js ks : List (List Code)) (k l : ℕ → List Code → List (List Code) → Type 0) → ((d : ℕ) (h : List Code) (is : List (List Code)) → k d h is → l d h (is ++ ks)) → Goes v due had js k → Goes v due had (js ++ ks) l
goes_on Skip due had js ks k l more g = more due had js g
goes_on (Open n) due had js ks k l more g = more n [] js g
goes_on (Take c) due had js ks k l more g = more (due - 1) (had ++ c ∷ []) js g
goes_on (Last c) due had [] ks k l more g = absurd g
goes_on (Last c) due had (j ∷ js) ks k l more g = (g.0, more 0 [] js g.1)
goes_on Close due had js ks k l more g = absurd g
goes_on (Wrong cause) due had js ks k l more g = absurd g

runs_append : (d e : ℕ) (h g : List Code) (xs ys : List ℕ) (due : ℕ) (had : List Code) (js ks : List (List Code)) → Runs d h xs due had js → Runs e g ys d h ks → Runs e g (xs ++ ys) due had (js ++ ks)
runs_append d e h g [] ys due had js ks r s =
    subst (λ x. Runs e g ys due had (x ++ ks)) (sym r.2) (subst₂ (λ x y. Runs e g ys x y ks) (sym r.0) (sym r.1) s)
runs_append d e h g (x ∷ xs) ys due had js ks r s =
    goes_on (judge_of (word_of x) due) due had js ks (Runs d h xs) (Runs e g (xs ++ ys)) (λ a b is t. runs_append d e h g xs ys a b is ks t s) r

-- filler changes nothing
with_filler : (d : ℕ) (h : List Code) (p : List ℕ) (due : ℕ) (had : List Code) (js : List (List Code)) → Runs d h (stripped p) due had js → Runs d h p due had js
with_filler d h [] due had js r = r
with_filler d h (w ∷ p) due had js r = go (with_filler d h p) (word_of w) refl r
  where
    goes_like : (v : Verdict) (a : ℕ) (b : List Code) (ks : List (List Code)) → ((x : ℕ) (y : List Code) (is : List (List Code)) → Runs d h (stripped p) x y is → Runs d h p x y is) → Goes v a b ks (Runs d h (stripped p)) → Goes v a b ks (Runs d h p)
    goes_like v a b ks more g =
        subst (λ x. Goes v a b x (Runs d h p)) (append-nil ks)
        (goes_on v a b ks [] (Runs d h (stripped p)) (Runs d h p) (λ x y is r. subst (Runs d h p x y) (sym (append-nil is)) (more x y is r)) g)

    go : ((x : ℕ) (y : List Code) (is : List (List Code)) → Runs d h (stripped p) x y is → Runs d h p x y is) → (x : Word) → word_of w ≡ x → Runs d h (unless_filler x w (stripped p)) due had js → Goes (judge_of (word_of w) due) due had js (Runs d h p)
    go more (Event c) e s = goes_like (judge_of (word_of w) due) due had js more s
    go more (Head n) e s = goes_like (judge_of (word_of w) due) due had js more s
    go more (Stop n) e s = goes_like (judge_of (word_of w) due) due had js more s
    go more Filler e s = subst (λ x. Goes (judge_of x due) due had js (Runs d h p)) (sym e) (more due had js s)

runs_event : (d : ℕ) (h : List Code) (c : Code) (ws : List ℕ) (due : ℕ) (had : List Code) (js : List (List Code)) → Runs d h ws (suc due) (had ++ c ∷ []) js → Runs d h (event_word c ∷ ws) (suc (suc due)) had js
runs_event d h c ws due had js r =
    let less : suc due ≡ suc (suc due) - 1 = omega arith in
    subst (λ x. Goes (judge_of x (suc (suc due))) (suc (suc due)) had js (Runs d h ws)) (sym (event_says c)) (subst (λ n. Runs d h ws n (had ++ c ∷ []) js) less r)

-- some of a job's events, and all of them
runs_some : (cs : List Code) (due : ℕ) (had : List Code) → length cs < due → Runs (due - length cs) (had ++ cs) (map event_word cs) due had []
runs_some [] due had l = (omega arith, sym (append-nil had), refl)
runs_some (c ∷ cs) zero had l = absurd (omega arith)
runs_some (c ∷ cs) (suc zero) had l = absurd (omega arith)
runs_some (c ∷ cs) (suc (suc due)) had l =
    let less : suc due - length cs ≡ suc (suc due) - length (c ∷ cs) = omega arith in
    subst₂ (λ n h. Runs n h (map event_word (c ∷ cs)) (suc (suc due)) had []) less (append_assoc had (c ∷ []) cs)
    (runs_event _ _ c (map event_word cs) due had [] (runs_some cs (suc due) (had ++ c ∷ []) (omega arith)))

runs_all : (c : Code) (cs had : List Code) → Runs 0 [] (map event_word (c ∷ cs)) (length (c ∷ cs)) had ((had ++ c ∷ cs) ∷ [])
runs_all c [] had = subst (λ x. Goes (judge_of x 1) 1 had ((had ++ c ∷ []) ∷ []) (Runs 0 [] [])) (sym (event_says c)) (refl, (refl, refl, refl))
runs_all c (b ∷ cs) had =
    runs_event 0 [] c (map event_word (b ∷ cs)) (length cs) had _
    (subst (λ j. Runs 0 [] (map event_word (b ∷ cs)) (length (b ∷ cs)) (had ++ c ∷ []) (j ∷ [])) (append_assoc had (c ∷ []) (b ∷ cs)) (runs_all b cs (had ++ c ∷ [])))

runs_head : (n : ℕ) → 1 ≤ n → n ≤ 1000 → Runs n [] (head_word n ∷ []) 0 [] []
runs_head n a b =
    let opened : judge_of (word_of (head_word n)) 0 ≡ Open n = ap (λ x. judge_of x 0) (head_says n b) ∙ cond-true (leb 1 n && leb n 1000) _ _ (and_from _ _ (le-leb 1 n a) (le-leb n 1000 b)) in
    subst (λ v. Goes v 0 [] [] (Runs n [] [])) (sym opened) (refl, refl, refl)

runs_job : (j : List Code) → 1 ≤ length j → length j ≤ 1000 → Runs 0 [] (job_words j) 0 [] (j ∷ [])
runs_job [] a b = absurd (omega arith)
runs_job (c ∷ cs) a b = runs_append (length (c ∷ cs)) 0 [] [] (head_word (length (c ∷ cs)) ∷ []) (map event_word (c ∷ cs)) 0 [] [] _ (runs_head (length (c ∷ cs)) a b) (runs_all c cs [])

runs_written : (js : List (List Code)) → Sized js → Runs 0 [] (written js) 0 [] js
runs_written [] s = (refl, refl, refl)
runs_written (j ∷ js) s = runs_append 0 0 [] [] (job_words j) (written js) 0 [] (j ∷ []) js (runs_job j s.0 s.1) (runs_written js s.2)

runs_begun : (js : List (List Code)) (n : ℕ) (had : List Code) → Sized js → n ≤ 1000 → length had < n → Runs (n - length had) had (written js ++ head_word n ∷ map event_word had) 0 [] js
runs_begun js n had s b l =
    subst (λ x. Runs (n - length had) had (written js ++ head_word n ∷ map event_word had) 0 [] x) (append-nil js)
    (runs_append 0 (n - length had) [] had (written js) (head_word n ∷ map event_word had) 0 [] js [] (runs_written js s)
    (runs_append n (n - length had) [] had (head_word n ∷ []) (map event_word had) 0 [] [] [] (runs_head n (omega arith) b) (runs_some had n [] l)))

-- after whole jobs, and after one begun
pub scan_whole : (js : List (List Code)) (p q : List ℕ) → Whole js p → scan (p ++ q) 0 0 [] ≡ after js (scan q (length p) 0 [])
scan_whole js p q h =
    scan_runs 0 [] p q 0 0 [] js (with_filler 0 [] p 0 [] js (subst (λ x. Runs 0 [] x 0 [] js) (sym h.1) (runs_written js h.0)))
    ∙ ap (λ n. after js (scan q n 0 [])) (omega arith)

pub scan_begun : (js : List (List Code)) (n : ℕ) (had : List Code) (p q : List ℕ) → Begun js n had p → scan (p ++ q) 0 0 [] ≡ after js (scan q (length p) (n - length had) had)
scan_begun js n had p q h =
    scan_runs (n - length had) had p q 0 0 [] js (with_filler (n - length had) had p 0 [] js (subst (λ x. Runs (n - length had) had x 0 [] js) (sym h.3) (runs_begun js n had h.0 h.1 h.2)))
    ∙ ap (λ m. after js (scan q m (n - length had) had)) (omega arith)
