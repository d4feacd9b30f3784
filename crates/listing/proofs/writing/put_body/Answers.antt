use Rattle.std.proofs.Common.{◌≡◌, map, sym, refl, ap, ◌∙◌, subst, ⊎_elim}
use Rattle.cursors.proofs.Adding.{adds_none, adds_same, adds_more}
use Rattle.steps.specs.Kinds.{name_text}
use Rattle.net.specs.declared.kinds.Kind.{Kind}
use Rattle.net.specs.declared.kinds.Kind.TheVariants.{Seen, First, Last, Feeder, Fed}
use Rattle.net.specs.Kinds.{number_of}
use Rattle.listing.specs.Pieces.{body}
use Rattle.listing.proofs.Pieces.{Naming, number_text, loop_text, end_text, name_text_lem}
use Rattle.listing.proofs.writing.put_body.Goals as goal

is : {k : Kind} (j : Kind) → Naming (number_of j) → k ≡ j → Naming (number_of k)
is j h e = subst (λ i. Naming (number_of i)) (sym e) h

pub returns-in-Place : goal.returns-in-Place
returns-in-Place c =
    let names = map name_text c.args.names.now in
    adds_same (sym (ap (λ k. body names (number_of k) c.args.x) c.in-Place.is ∙ number_text names c.args.x)) c.put_number.ensures

pub returns-in-Looping : goal.returns-in-Looping
returns-in-Looping c =
    let names = map name_text c.args.names.now in
    adds_same (sym (ap (λ k. body names (number_of k) c.args.x) c.in-Looping.is ∙ loop_text names c.args.x)) (adds_more c.put_name.ensures c.put_number-in-Looping.ensures)

pub returns-in-Count : goal.returns-in-Count
returns-in-Count c =
    let names = map name_text c.args.names.now in
    adds_same (sym (ap (λ k. body names (number_of k) c.args.x) c.in-Count.is ∙ end_text names c.args.x)) (adds_none c.args.cursor.now)

pub returns-in-Seen : goal.returns-in-Seen
returns-in-Seen c =
    let naming = ⊎_elim (is Seen (refl, refl, refl)) (⊎_elim (is First (refl, refl, refl)) (⊎_elim (is Last (refl, refl, refl)) (⊎_elim (is Feeder (refl, refl, refl)) (is Fed (refl, refl, refl))))) c.in-Seen.is in
    adds_same (sym (name_text_lem (map name_text c.args.names.now) (number_of c.args.kind) c.args.x naming)) c.put_name-in-Seen.ensures
