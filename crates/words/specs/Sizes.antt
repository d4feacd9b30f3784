-- The jobs of words are lawful. Assumes nothing.
use Rattle.std.specs.Prelude.{◌≡◌, ℕ, zero, suc, ◌+◌, ◌-◌, ◌^◌, ◌<◌, ◌≤◌, ◌&&◌, List, [], ◌∷◌, ◌++◌, length, drop, ◌==◌, nat_le}
use Rattle.std.proofs.Common.{arith}
use Rattle.std.proofs.lemmas.List.{length_push, length-drop}
use Rattle.std.proofs.lemmas.Bool.{cond_both, leb-true, and_parts}
use Rattle.steps.specs.declared.codes.Code.{Code}
use Rattle.trails.specs.Jobs.{Sized, Lawful}
use Rattle.words.specs.declared.kinds.Word.{Word}
use Rattle.words.specs.declared.kinds.Word.TheVariants.{Event, Head, Stop, Filler}
use Rattle.words.specs.Words.{word_of}
use Rattle.trails.specs.Told.{Told}
use Rattle.words.specs.Scan.{judge_of, turn, scan, from}

-- lawful jobs, at most n of them
abbrev Good : ℕ → (Told Code) → Type 0
Good n t = Sized t.jobs × (length t.jobs ≤ n)

turn_good : (w : Word) (n i due : ℕ) (had : List Code) (k : ℕ → List Code → Told Code) → due + length had ≤ 1000 → ((d : ℕ) (h : List Code) → d + length h ≤ 1000 → Good n (k d h)) → Good (n + 1) (turn (judge_of w due) i due had k)
turn_good Filler n i due had k b more = let m = more due had b in (m.0, omega arith)
turn_good (Head c) n i zero had k b more =
    cond_both (nat_le 1 c && nat_le c 1000) _ _ (λ v. Good (n + 1) (turn v i 0 had k))
    (λ e. let m = more c [] (omega (arith, leb-true c 1000 (and_parts (nat_le 1 c) (nat_le c 1000) e).1)) in (m.0, omega arith)) (λ _. (tt, omega arith))
turn_good (Head c) n i (suc due) had k b more = (tt, omega arith)
turn_good (Stop c) n i zero had k b more = cond_both (c == 0) _ _ (λ v. Good (n + 1) (turn v i 0 had k)) (λ _. (tt, omega arith)) (λ _. (tt, omega arith))
turn_good (Stop c) n i (suc due) had k b more = (tt, omega arith)
turn_good (Event c) n i zero had k b more = (tt, omega arith)
turn_good (Event c) n i (suc zero) had k b more =
    let long : length (had ++ c ∷ []) ≡ length had + 1 = length_push had c in
    let m = more 0 [] (omega arith) in
    ((omega arith, omega arith, m.0), omega arith)
turn_good (Event c) n i (suc (suc due)) had k b more =
    let long : length (had ++ c ∷ []) ≡ length had + 1 = length_push had c in
    let m = more (suc (suc due) - 1) (had ++ c ∷ []) (omega arith) in
    (m.0, omega arith)

scan_good : (ws : List ℕ) (i due : ℕ) (had : List Code) → due + length had ≤ 1000 → Good (length ws) (scan ws i due had)
unfolding scan
scan_good [] i due had b = (tt, omega arith)
scan_good (w ∷ ws) i due had b = let t = turn_good (word_of w) (length ws) i due had (scan ws (i + 1)) b (scan_good ws (i + 1)) in (t.0, omega arith)

pub from_lawful : (ws : List ℕ) (i : ℕ) → length ws < 2 ^ 64 → Lawful (from ws i).jobs
from_lawful ws i h = let t = scan_good (drop i ws) i 0 [] (omega arith) in (t.0, omega (arith, t.1, length-drop i ws))
