-- There is one reading of words: the one that the scan tells. Assumes nothing.
use Rattle.std.proofs.Common.{◌≡◌, ℕ, zero, suc, ◌+◌, ◌-◌, ◌<◌, ◌&&◌, eqb, leb, ◌⊎◌, List, [], ◌∷◌, ◌++◌, length, get_or, take, drop, sym, refl, ap, ◌∙◌, ⊎_elim, arith}
use Rattle.std.proofs.lemmas.List.{append-nil, take-append-drop, drop_more, length-take-le}
use Rattle.std.proofs.lemmas.Bool.{cond-false, ne_eqb}
use Rattle.std.proofs.lemmas.Bool.Decides.{nat_tests}
use Rattle.steps.specs.declared.codes.Code.{Code}
use Rattle.trails.specs.declared.endings.Cause.{Cause}
use Rattle.trails.specs.declared.endings.Cause.TheVariants.{OutOfTurn, JobSize, WordsRunOut, EndBits, OddByte, NinthByte, NameDue, CutLine}
use Rattle.trails.specs.Jobs.{Ending}
use Rattle.std.specs.Prelude.{None as End, Some as Fault}
use Rattle.words.specs.declared.kinds.Word.TheVariants.{Head, Stop}
use Rattle.words.specs.declared.verdicts.Verdict.TheVariants.{Wrong}
use Rattle.words.specs.Words.{word_of, end_word}
use Rattle.trails.specs.Told.{Told, over, after}
use Rattle.words.specs.Scan.{judge_of, turn, ran_out, scan, from}
use Rattle.words.specs.Reading.{Whole, Unfinished, WrongWord, Reading}
use Rattle.words.proofs.Runs.{scan_whole, scan_begun}

abbrev telling : List (List Code) → Ending → Told Code
telling js e = record { jobs = js; ending = e }

after_over : (js : List (List Code)) (e : Ending) → after js (over e) ≡ telling js e
after_over js e = ap (λ ks. telling ks e) (append-nil js)

late_head : (n due : ℕ) → 0 < due → judge_of (Head n) due ≡ Wrong OutOfTurn
late_head n zero l = absurd (omega arith)
late_head n (suc due) l = refl

late_stop : (n due : ℕ) → 0 < due → judge_of (Stop n) due ≡ Wrong OutOfTurn
late_stop n zero l = absurd (omega arith)
late_stop n (suc due) l = refl

no_size : (n : ℕ) → (n < 1) ⊎ (1000 < n) → judge_of (Head n) 0 ≡ Wrong JobSize
no_size n h = cond-false (leb 1 n && leb n 1000) _ _ (grind (arith, nat_tests))

low_set : (n : ℕ) → 0 < n → judge_of (Stop n) 0 ≡ Wrong EndBits
low_set n h = cond-false (eqb n 0) _ _ (ne_eqb n 0 (λ z. omega arith))

-- the word at place i is wrong, with so many due and had ahead of it
wrong_at : (ws : List ℕ) (i due : ℕ) (had : List Code) (js : List (List Code)) (cause : Cause) → i < length ws → ((q : List ℕ) → scan (take i ws ++ q) 0 0 [] ≡ after js (scan q (length (take i ws)) due had)) → judge_of (word_of (get_or ws i 0)) due ≡ Wrong cause → scan ws 0 0 [] ≡ telling js (Fault (record { cause = cause; place = i }))
unfolding scan
wrong_at ws i due had js cause l front v =
    let parts : ws ≡ take i ws ++ get_or ws i 0 ∷ drop (i + 1) ws = sym (take-append-drop i ws) ∙ ap (λ x. take i ws ++ x) (drop_more ws i 0 l) in
    let rest = scan (drop (i + 1) ws) in
    ap (λ x. scan x 0 0 []) parts ∙ front (get_or ws i 0 ∷ drop (i + 1) ws)
    ∙ ap (λ n. after js (scan (get_or ws i 0 ∷ drop (i + 1) ws) n due had)) (length-take-le i ws (omega arith))
    ∙ ap (λ x. after js (turn x i due had (rest (i + 1)))) v
    ∙ after_over js _

wrong_word : (ws : List ℕ) (i : ℕ) (js : List (List Code)) (cause : Cause) → i < length ws → WrongWord cause js (take i ws) (get_or ws i 0) → scan ws 0 0 [] ≡ telling js (Fault (record { cause = cause; place = i }))
wrong_word ws i js OutOfTurn l h =
    ⊎_elim
    (λ early. wrong_at ws i 0 [] js OutOfTurn l (λ q. scan_whole js (take i ws) q early.0) (ap (λ x. judge_of x 0) early.1.1))
    (λ late.
    let n = late.0.0 in
    let had = late.0.1 in
    let b = late.0.2 in
    wrong_at ws i (n - length had) had js OutOfTurn l (λ q. scan_begun js n had (take i ws) q b)
    (⊎_elim (λ e. ap (λ x. judge_of x (n - length had)) e.1 ∙ late_head e.0 (n - length had) (omega (arith, b.2)))
    (λ e. ap (λ x. judge_of x (n - length had)) e.1 ∙ late_stop e.0 (n - length had) (omega (arith, b.2))) late.1))
    h
wrong_word ws i js JobSize l h = wrong_at ws i 0 [] js JobSize l (λ q. scan_whole js (take i ws) q h.0) (ap (λ x. judge_of x 0) h.1.1 ∙ no_size h.1.0 h.1.2)
wrong_word ws i js EndBits l h = wrong_at ws i 0 [] js EndBits l (λ q. scan_whole js (take i ws) q h.0) (ap (λ x. judge_of x 0) h.1.1 ∙ low_set h.1.0 h.1.2)
wrong_word ws i js WordsRunOut l h = absurd h
wrong_word ws i js OddByte l h = absurd h
wrong_word ws i js NinthByte l h = absurd h
wrong_word ws i js NameDue l h = absurd h
wrong_word ws i js CutLine l h = absurd h

run_out : (ws : List ℕ) (js : List (List Code)) → Whole js ws ⊎ Unfinished js ws → scan ws 0 0 [] ≡ telling js (Fault (ran_out (length ws)))
unfolding scan
run_out ws js h =
    ap (λ x. scan x 0 0 []) (sym (append-nil ws))
    ∙ ⊎_elim (λ w. scan_whole js ws [] w) (λ u. scan_begun js u.0 u.1 ws [] u.2) h
    ∙ after_over js _

at_end : (js : List (List Code)) (q : List ℕ) (n : ℕ) → after js (scan (end_word ∷ q) n 0 []) ≡ telling js End
unfolding scan
at_end js q n = after_over js End

pub told : (ws : List ℕ) (js : List (List Code)) (e : Ending) → Reading ws js e → from ws 0 ≡ telling js e
told ws js End r = ap (λ x. scan x 0 0 []) r.2 ∙ scan_whole js r.0 (end_word ∷ r.1) r.3 ∙ at_end js r.1 (length r.0)
told ws js (Fault f) r =
    ⊎_elim (λ h. wrong_word ws f.place js f.cause h.0 h.1)
    (λ h. run_out ws js h.2 ∙ ap (λ x. telling js (Fault (ran_out x))) (sym h.0) ∙ ap (λ x. telling js (Fault (record { cause = x; place = f.place }))) (sym h.1)) r

pub only : (ws : List ℕ) (js : List (List Code)) (e : Ending) → Reading ws js e → (js ≡ (from ws 0).jobs) × (e ≡ (from ws 0).ending)
only ws js e r = (ap (λ t. t.jobs) (sym (told ws js e r)), ap (λ t. t.ending) (sym (told ws js e r)))
