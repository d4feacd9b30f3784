use Rattle.std.proofs.Common.{[], ◌∷◌, ◌++◌, take, sym, ap, ◌∙◌, subst}
use Rattle.std.proofs.lemmas.List.{take_more}
use Rattle.cursors.specs.Adds.{Adds}
use Rattle.cursors.proofs.Adding.{adds_more}
use Rattle.cursors.proofs.cursor.Cursor.put_all.Goals as goal

pub loop-item-preserved : goal.loop-item-preserved
loop-item-preserved g c =
    let items = c.args.items.now in
    let item = c.item-item.result in
    let more = take_more items c.loop-item.item-index item c.loop-item-test.true in
    subst (λ xs. Adds c.args.self.now xs c.put.new.self) (ap (λ x. take c.loop-item.item-index items ++ x ∷ []) c.item-item.is ∙ sym more) (adds_more c.loop-item.invariant c.put.ensures)
