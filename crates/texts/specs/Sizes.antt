-- The jobs of a text are lawful. Assumes nothing.
use Rattle.std.specs.Prelude.{◌≡◌, ℕ, ◌+◌, ◌^◌, ◌<◌, ◌≤◌, List, [], ◌∷◌, ◌++◌, length, drop, nat_lt}
use Rattle.std.proofs.Common.{arith}
use Rattle.std.proofs.lemmas.List.{length_push, length-drop}
use Rattle.std.proofs.lemmas.Bool.{cond_both, ltb-true}
use Rattle.steps.specs.declared.names.Name.{Name}
use Rattle.steps.specs.Making.{name_of}
use Rattle.trails.specs.Jobs.{Sized, Lawful}
use Rattle.trails.specs.Told.{Told}
use Rattle.texts.specs.Tokens.{Byte, letter, space, line_end, odd, byte_of}
use Rattle.texts.specs.Scan.{turn, stop, scan, from}

-- at most so many names, the one that is begun among them
abbrev pub Fits : ℕ → List Name → List ℕ → Type 0
Fits most had tail = (length had ≤ most) × (1 ≤ length tail → length had < most)

-- lawful jobs, at most n of them
abbrev Good : ℕ → Told Name → Type 0
Good n t = Sized t.jobs × (length t.jobs ≤ n)

turn_good : (y : Byte) (b n i : ℕ) (had : List Name) (tail : List ℕ) (k : List Name → List ℕ → Told Name) → Fits 1000 had tail → ((h : List Name) (t : List ℕ) → Fits 1000 h t → Good n (k h t)) → Good (n + 1) (turn 1000 y b i had tail k)
turn_good letter b n i had [] k f more =
    cond_both (nat_lt (length had) 1000) _ _ (Good (n + 1)) (λ e. let m = more had (b ∷ []) (f.0, λ _. ltb-true (length had) 1000 e) in (m.0, omega arith)) (λ _. (tt, omega arith))
turn_good letter b n i had (t ∷ ts) k f more =
    cond_both (nat_lt (length (t ∷ ts)) 8) _ _ (Good (n + 1)) (λ _. let m = more had ((t ∷ ts) ++ b ∷ []) (f.0, λ _. f.1 (omega arith)) in (m.0, omega arith)) (λ _. (tt, omega arith))
turn_good space b n i had [] k f more = (tt, omega arith)
turn_good space b n i had (t ∷ ts) k f more =
    let long : length (had ++ name_of (t ∷ ts) ∷ []) ≡ length had + 1 = length_push had (name_of (t ∷ ts)) in
    let room : length had < 1000 = f.1 (omega arith) in
    let m = more (had ++ name_of (t ∷ ts) ∷ []) [] (omega arith, λ z. absurd (omega arith)) in
    (m.0, omega arith)
turn_good line_end b n i had [] k f more = (tt, omega arith)
turn_good line_end b n i had (t ∷ ts) k f more =
    let long : length (had ++ name_of (t ∷ ts) ∷ []) ≡ length had + 1 = length_push had (name_of (t ∷ ts)) in
    let room : length had < 1000 = f.1 (omega arith) in
    let m = more [] [] (omega arith, λ z. absurd (omega arith)) in
    ((omega arith, omega arith, m.0), omega arith)
turn_good odd b n i had tail k f more = (tt, omega arith)

stop_good : (n i : ℕ) (had : List Name) (tail : List ℕ) → Good n (stop i had tail)
stop_good n i [] [] = (tt, omega arith)
stop_good n i [] (t ∷ ts) = (tt, omega arith)
stop_good n i (h ∷ hs) tail = (tt, omega arith)

scan_good : (bs : List ℕ) (i : ℕ) (had : List Name) (tail : List ℕ) → Fits 1000 had tail → Good (length bs) (scan 1000 bs i had tail)
unfolding scan
scan_good [] i had tail f = stop_good 0 i had tail
scan_good (b ∷ bs) i had tail f = let t = turn_good (byte_of b) b (length bs) i had tail (scan 1000 bs (i + 1)) f (scan_good bs (i + 1)) in (t.0, omega arith)

pub from_lawful : (text : List ℕ) (i : ℕ) → length text < 2 ^ 64 → Lawful (from text i).jobs
from_lawful text i h = let t = scan_good (drop i text) i [] [] (omega arith, λ z. absurd (omega arith)) in (t.0, omega (arith, t.1, length-drop i text))
