-- The run that is shown, call by call
use Rattle.std.proofs.Common.{◌≡◌, ℕ, zero, suc, ◌+◌, ◌≤◌, true, false, ltb, List, [], ◌∷◌, ◌++◌, map, length, get_or, Ok, sym, refl, ap, ◌∙◌, inl, arith}
use lib.Count.{ones_in}
use Rattle.std.proofs.lemmas.List.{length-map, get_or-map, get_or_default}
use Rattle.std.proofs.lemmas.Bool.{both_ways, ltb-true}
use Rattle.steps.specs.declared.codes.Code.{Code}
use Rattle.steps.specs.Kinds.{code_order}
use Rattle.steps.specs.Rosters.{Fit, Listed, ListedBelow, numbers}
use Rattle.steps.specs.Alike.{code_laws}
use Rattle.steps.proofs.Climbs.{Climbs, climbs_ascend}
use Rattle.book.specs.declared.entries.Entry.TheVariants.{New}
use Rattle.book.specs.Enter.{Entered, NotHeld, unused}
use Rattle.flow.specs.Bits.{bit}
use Rattle.flow.specs.Flow.{Jobs, some}
use Rattle.bonds.specs.Pairs.{place_pairs}
use Rattle.net.specs.Net.{Draws, every}
use Rattle.runs.specs.Accepted.{equal_jobs}
use Rattle.runs.specs.Run.{Run, opened, entered, fed, drawn}
use Rattle.runs.specs.Examples.{diamond}
use Rattle.runs.specs.Shown.{Calls, Shown, A, X, roster, shortcut, fed_book, last_book, diamond_words, shortcut_words, lent, drawn_once, drawn_twice}
use Rattle.runs.proofs.Checking.{every_at}
use Rattle.runs.proofs.Runs.{held_means}
use Rattle.runs.proofs.Examples.{examples, draws_checked, two}

climbs : Climbs code_order roster 4
climbs zero d l = refl
climbs (suc zero) d l = refl
climbs (suc (suc zero)) d l = refl
climbs (suc (suc (suc k))) d l = absurd (omega arith)

fit : Fit code_order roster 4
fit = (climbs_ascend code_order code_laws roster climbs, refl)

-- the job of these steps of the roster, and its numbers
abbrev job : List ℕ → List Code
job ns = map (λ n. get_or roster n A) ns

abbrev number : List ℕ → List ℕ
number ns = numbers code_order roster (job ns)

on_roster : (ns : List ℕ) → every (λ n. ltb n 4) ns ≡ true → ListedBelow roster (job ns) (length (job ns))
on_roster ns e k l d =
    let m = length-map ns (λ n. get_or roster n A) in
    let low = ltb-true (get_or ns k 0) 4 (every_at (λ n. ltb n 4) 0 ns e k (omega arith)) in
    let is : get_or (job ns) k d ≡ get_or roster (get_or ns k 0) A = get_or-map (λ n. get_or roster n A) ns k 0 d (omega arith) in
    (get_or ns k 0, low, get_or_default roster (get_or ns k 0) (get_or (job ns) k d) A low ∙ sym is)

off_roster : Listed roster X → ⊥
off_roster (k, l, e) = let low = ltb-true _ 3 (every_at (λ c. ltb c.unit 3) X roster refl k l) in let same = ap (λ (c : Code). c.unit) e in omega arith

not_held : (js : Jobs) (j : List ℕ) → some (equal_jobs j) js ≡ false → NotHeld js j
not_held js j e i l same = both_ways _ e ((held_means js j).1 (i, (l, sym same)))

draws_shortcut : Draws shortcut shortcut_words
unfolding place_pairs bit ones_in
draws_shortcut = draws_checked shortcut (two 0 1 ∷ two 0 2 ∷ two 0 3 ∷ two 1 3 ∷ two 2 3 ∷ []) _ refl refl refl refl

-- a new job is entered, as computing tells
takes : (js : Jobs) (ns : List ℕ) → (1 ≤ length (job ns)) × (length (job ns) ≤ 1000) → every (λ n. ltb n 4) ns ≡ true → some (equal_jobs (number ns)) js ≡ false → length (number ns) + 1 ≤ unused 16 js
    → Entered code_order 4 16 js roster (job ns) (Ok (New (length js))) (js ++ number ns ∷ [])
takes js ns many each new room = (omega arith, fit, many, on_roster ns each, (not_held js (number ns) new, room, refl, refl))

calls : Calls
calls = record {
  opening = record { steps_are = refl; empty = refl; opened = ((λ o. refl), λ void. absurd (void (omega arith))); long = refl };
  feeding = record {
    fed = (
      omega arith,
      fit,
      omega arith,
      inl (
        New 0,
        _,
        takes [] (0 ∷ 1 ∷ 2 ∷ 3 ∷ []) (omega arith) refl refl (omega arith),
        inl (New 1, _, takes ((0 ∷ 1 ∷ 2 ∷ 3 ∷ []) ∷ []) (0 ∷ 2 ∷ 1 ∷ 3 ∷ []) (omega arith) refl refl (omega arith), (refl, refl, refl)),
      ),
    );
    laid_is = refl;
    long = refl;
    steps_stay = refl;
  };
  drawing = (omega arith, (diamond_words, examples.of_diamond, refl, refl, refl, refl));
  refusing = record {
    entered = (omega arith, fit, omega arith, (omega arith, (λ d. off_roster), λ k l d. let z : k ≡ 0 = omega arith in rw z (0, omega arith, refl)), refl);
    written_is = refl;
    long = refl;
    steps_stay = refl;
  };
  entering = record { entered = takes diamond (0 ∷ 3 ∷ []) (omega arith) refl refl (omega arith); written_is = refl; long = refl; steps_stay = refl };
  redrawing = (omega arith, (shortcut_words, draws_shortcut, refl, refl, refl, refl));
}

run : Run code_order roster fed_book diamond
run = fed (opened calls.opening) (inl refl) calls.feeding

run_on : Run code_order roster last_book shortcut
run_on = entered (entered (drawn lent drawn_once (Ok 19) run calls.drawing) (inl refl) calls.refusing) (inl refl) calls.entering

pub shown : Shown
shown = record {
  calls = calls;
  earlier = record { book = fed_book; run = run; old = lent; new = drawn_once; count = 19; draw = calls.drawing; is = refl };
  later = record { book = last_book; run = run_on; old = drawn_once; new = drawn_twice; count = 22; draw = calls.redrawing; is = refl };
  apart = λ e. let differ = ap length e in omega arith;
}
