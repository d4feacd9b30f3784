-- How a text reads. Assumes nothing.
use Rattle.std.proofs.Common.{◌≡◌, ℕ, ◌+◌, List, [], ◌∷◌, ◌++◌, length, drop, sym, ap, ◌∙◌, subst, append_assoc, append-nil, arith}
use Rattle.std.proofs.lemmas.List.{length-append, length_push, take-append-drop}
use Rattle.steps.specs.declared.names.Name.{Name}
use Rattle.trails.specs.Jobs.{Ending}
use Rattle.std.specs.Prelude.{None as End, Some as Fault}
use Rattle.trails.specs.Jobs.{Sized}
use Rattle.trails.proofs.Sizes.{sized_push}
use Rattle.texts.specs.Scan.{scan, from}
use Rattle.texts.specs.Reading.{spaced, line, written, Reading, AsWritten, Understood}
use Rattle.texts.proofs.Written.{written_push}
use Rattle.texts.proofs.Sound.{sound}
use Rattle.texts.proofs.Complete.{complete, written_run}
use Rattle.texts.proofs.Stuck.{first_stuck}

-- the jobs of a reading are written out at the start of the text
front : (text : List ℕ) (js : List (List Name)) (e : Ending) → Reading text js e → Sized js × ((rest : List ℕ) × (text ≡ written js ++ rest))
front text js End (s, is) = (s, ([], is ∙ sym (append-nil (written js))))
front text js (Fault f) (names, tail, r, stands) = (
  r.sized,
  (
    (spaced names ++ tail) ++ drop f.place text,
    sym (take-append-drop f.place text) ∙ ap (λ t. t ++ drop f.place text) r.up_to ∙ append_assoc (written js) (spaced names ++ tail) (drop f.place text),
  ),
)

-- and no line more
as_written : (text : List ℕ) (js : List (List Name)) (e : Ending) → Reading text js e → AsWritten text js
as_written text js e r =
    let f = front text js e r in
    record {
      rest = f.1.0;
      is = f.1.1;
      no_line = λ j q some few is.
          let ks = js ++ j ∷ [] in
          let whole : text ≡ written ks ++ q = f.1.1 ∙ ap (λ t. written js ++ t) is ∙ sym (append_assoc (written js) (line j) q) ∙ ap (λ t. t ++ q) (sym (written_push js j)) in
          let told = sym (complete 1000 text js e r) ∙ ap (λ t. scan 1000 t 0 [] []) whole ∙ written_run 1000 ks q 0 (sized_push 1000 js j f.0 some few) in
          let more = (scan 1000 q (0 + length (written ks)) [] []).jobs in
          omega (arith, ap (λ t. length t.jobs) told, length-append ks more, length_push js j);
    }

pub understanding : (text : List ℕ) → Understood text (from text 0).jobs (from text 0).ending
understanding text =
    let r = sound 1000 text in
    record {
      reads = r;
      only = λ ks d other. let same = complete 1000 text ks d other in (ap (λ t. t.jobs) (sym same), ap (λ t. t.ending) (sym same));
      as_written = as_written text (from text 0).jobs (from text 0).ending r;
      stuck = λ f e. first_stuck text (from text 0).jobs f (subst (Reading text (from text 0).jobs) e r);
    }
