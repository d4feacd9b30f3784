-- Items that are put one after the other
use Rattle.std.specs.Prelude.{◌≡◌, ℕ, ◌+◌, ◌-◌, ◌^◌, List, length, min, take, drop}
use Rattle.std.proofs.lemmas.List.Edits.{sets}
use Rattle.cursors.specs.declared.cursor.Cursor.{Cursor}

-- the items are put from the count on, as far as there is room, and counted up to the greatest usize; the memory is the
-- same lent memory
pub record Adds {T : Type 0} (before : Cursor T) (items : List T) (after : Cursor T) : Type 0 where
  pub memory : after.out.now ≡ sets before.out.now before.len items
  pub count : after.len ≡ min (before.len + length items) (2 ^ 64 - 1)
  pub same_reference : after.out.ghost_name ≡ before.out.ghost_name

-- the items are n and stand at the start; the rest is as it was
pub record Wrote {T : Type 0} (old items new : List T) (n : ℕ) : Type 0 where
  pub count : n ≡ length items
  pub front : take n new ≡ items
  pub rest : drop n new ≡ drop n old
