-- How words read. Assumes nothing.
use Rattle.std.proofs.Common.{◌≡◌, ℕ, ◌⊎◌, List, [], ◌∷◌, ◌++◌, length, get_or, take, drop, sym, ap, ◌∙◌, subst, ⊎_elim, arith}
use Rattle.std.proofs.lemmas.List.{append_assoc, append-nil, length-append, length_push, take-append-drop}
use Rattle.steps.specs.declared.codes.Code.{Code}
use Rattle.trails.specs.Jobs.{Ending}
use Rattle.std.specs.Prelude.{None as End, Some as Fault}
use Rattle.trails.proofs.Sizes.{sized_push}
use Rattle.words.specs.Words.{written, stripped}
use Rattle.words.specs.Scan.{scan, from}
use Rattle.words.specs.Reading.{Whole, Unfinished, Reading, AsWritten, Understood}
use Rattle.words.proofs.Stripping.{stripped_append, written_append, split}
use Rattle.words.proofs.Runs.{scan_whole}
use Rattle.words.proofs.Complete.{told, only}
use Rattle.words.proofs.Sound.{reads}
use Rattle.words.proofs.Stuck.{stuck, front}

-- whole jobs stand at the start of words that are whole jobs and some part of one more
abbrev Front : List ℕ → List (List Code) → Type 0
Front ws js = (p : List ℕ) × (q : List ℕ) × (ws ≡ p ++ q) × Whole js p

begun_front : (p : List ℕ) (js : List (List Code)) → Whole js p ⊎ Unfinished js p → Front p js
begun_front p js h =
    ⊎_elim (λ w. (p, [], sym (append-nil p), w))
    (λ u. let t = split p (written js) _ u.2.3 in (t.0, t.1, t.2, (u.2.0, t.3))) h

-- and at the start of words that go on
on_front : (p q : List ℕ) (js : List (List Code)) → Front p js → Front (p ++ q) js
on_front p q js (a, b, is, w) = (a, b ++ q, ap (λ x. x ++ q) is ∙ append_assoc a b q, w)

reading_front : (ws : List ℕ) (js : List (List Code)) (e : Ending) → Reading ws js e → Front ws js
reading_front ws js End (p, q, is, w) = (p, _, is, w)
reading_front ws js (Fault f) r =
    ⊎_elim
    (λ h. subst (λ x. Front x js) (take-append-drop f.place ws) (on_front (take f.place ws) (drop f.place ws) js (begun_front (take f.place ws) js (front f.cause js (take f.place ws) (get_or ws f.place 0) h.1))))
    (λ h. begun_front ws js h.2) r

as_written : (ws : List ℕ) (js : List (List Code)) (e : Ending) → Reading ws js e → AsWritten ws js
as_written ws js e r =
    let f = reading_front ws js e r in
    record {
      front = f.0;
      rest = f.1;
      is = f.2;
      whole = f.3;
      no_job = λ j p q w is.
          let ks = js ++ j ∷ [] in
          let ahead = f.0 ++ p in
          let all : Whole ks ahead = (sized_push 1000 js j f.3.0 w.0.0 w.0.1, stripped_append f.0 p ∙ ap (λ x. x ++ stripped p) f.3.1 ∙ ap (λ x. written js ++ x) w.1 ∙ sym (written_append js (j ∷ []))) in
          let told_of = sym (told ws js e r) ∙ ap (λ x. scan x 0 0 []) (f.2 ∙ ap (λ x. f.0 ++ x) is ∙ sym (append_assoc f.0 p q)) ∙ scan_whole ks ahead q all in
          omega (arith, ap (λ t. length t.jobs) told_of, length-append ks (scan q (length ahead) 0 []).jobs, length_push js j);
    }

pub understanding : (ws : List ℕ) → Understood ws (from ws 0).jobs (from ws 0).ending
understanding ws = record {
  reads = reads ws;
  only = λ ks d r. only ws ks d r;
  as_written = as_written ws (from ws 0).jobs (from ws 0).ending (reads ws);
  stuck = stuck ws;
}
