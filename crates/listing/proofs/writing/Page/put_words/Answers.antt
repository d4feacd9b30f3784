use Rattle.std.proofs.Common.{◌%◌, ◌^◌, ◌++◌, map, get_or, take, sym, refl, ap, ◌∙◌}
use Rattle.std.proofs.lemmas.List.{take_more}
use Rattle.cursors.proofs.Adding.{adds_none, adds_same, adds_more}
use Rattle.steps.specs.Kinds.{name_text}
use Rattle.listing.specs.Pieces.{body, lead, piece, pieces, end_kind}
use Rattle.listing.proofs.Pieces.{pieces_more, end_kind_more}
use Rattle.listing.proofs.writing.Page.put_words.Goals as goal

pub loop-word-init : goal.loop-word-init
unfolding pieces
loop-word-init c = (adds_none c.args.cursor.now, refl)

pub loop-word-preserved : goal.loop-word-preserved
unfolding piece
loop-word-preserved c =
    let names = map name_text c.args.self.now.names.now in
    let words = c.args.self.now.words.now in
    let ws = take c.loop-word.word-index words in
    let w = get_or words c.loop-word.word-index 0 in
    let more = take_more words c.loop-word.word-index 0 c.loop-word-test.true in
    let kind = c.kind_of-kind.ensures in
    let text = adds_same
    (λ i. lead (c.loop-word.invariant.1 i) (kind i) ++ body names (kind i) (w % 2 ^ 28))
    (adds_more c.put_lead.ensures c.put_body.ensures) in (
      adds_same (sym (ap (pieces names 1) more ∙ pieces_more names 1 ws w)) (adds_more c.loop-word.invariant.0 text),
      kind ∙ sym (ap (end_kind 1) more ∙ end_kind_more 1 ws w),
    )
