use Rattle.std.proofs.Common.{[], sym, ap, ◌∙◌}
use Rattle.std.proofs.lemmas.List.{get_or-map}
use Rattle.cursors.proofs.Adding.{adds_same, adds_more}
use Rattle.steps.specs.Kinds.{name_text}
use Rattle.listing.proofs.writing.put_name.Goals as goal

pub returns-in-Some : goal.returns-in-Some
returns-in-Some c =
    let names = c.args.names.now in
    let name = c.in-Some.name.now in
    let found = c.in-Some.ensures.lookup.3 in
    let text = sym (get_or-map name_text names c.args.step name [] found.0 ∙ ap name_text (sym (found.1 name))) in
    adds_more c.put.ensures (adds_same (c.text.ensures.0 ∙ text) c.put_all.ensures)
