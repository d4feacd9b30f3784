-- Adding items, and then more
use Rattle.std.proofs.Common.{◌≡◌, ℕ, suc, ◌+◌, ◌-◌, ◌^◌, ◌<◌, ◌≤◌, List, [], ◌∷◌, ◌++◌, length, min, set, take, drop, sym, refl, ap, ◌∙◌, subst, ⊎_elim, length-append, arith}
use Rattle.std.proofs.lemmas.List.{set_past, take_at, drop_at}
use Rattle.std.proofs.lemmas.List.Edits.{sets, sets-eq}
use Rattle.std.proofs.Math.Seq.{length-sets}
use Rattle.std.proofs.lemmas.Bool.{cases_lt}
use Rattle.cursors.specs.declared.cursor.Cursor.{Cursor}
use Rattle.cursors.specs.Adds.{Adds, Wrote}

module _ {T : Type 0} where
  sets_append : (xs ys l : List T) (i : ℕ) → sets l i (xs ++ ys) ≡ sets (sets l i xs) (i + length xs) ys
  sets_append [] ys l i = ap (λ n. sets l n ys) (omega arith)
  sets_append (x ∷ xs) ys l i = sets_append xs ys (set l i x) (suc i) ∙ ap (λ n. sets (sets (set l i x) (suc i) xs) n ys) (omega arith)

  sets_past : (xs l : List T) (i : ℕ) → length l ≤ i → sets l i xs ≡ l
  sets_past [] l i past = refl
  sets_past (x ∷ xs) l i past = ap (λ m. sets m (suc i) xs) (set_past l i x past) ∙ sets_past xs l (suc i) (omega arith)

  -- a count past the end says no more than that it is past the end
  sets_from : (xs l : List T) (i j : ℕ) → length l ≤ j → i ≡ min j (2 ^ 64 - 1) → length l < 2 ^ 64 → sets l i xs ≡ sets l j xs
  sets_from xs l i j past e fits = sets_past xs l i (omega (arith, e)) ∙ sym (sets_past xs l j past)

  pub adds_none : (cursor : Cursor T) → Adds cursor [] cursor
  adds_none cursor = let fits = cursor.fits in record { memory = refl; count = omega arith; same_reference = refl }

  -- the same items, said otherwise
  pub adds_same : {before after : Cursor T} {xs ys : List T} → xs ≡ ys → Adds before xs after → Adds before ys after
  adds_same {before} {after} e = subst (λ items. Adds before items after) e

  pub adds_more : {before mid after : Cursor T} {xs ys : List T} → Adds before xs mid → Adds mid ys after → Adds before (xs ++ ys) after
  adds_more {before} {mid} {after} {xs} {ys} a b =
      let fits = before.fits in
      let now = sets before.out.now before.len xs in
      let long : length now ≡ length before.out.now = length-sets before.out.now before.len xs in
      let end = before.len + length xs in
      record {
        memory = b.memory ∙ ap (λ l. sets l mid.len ys) a.memory ∙ ⊎_elim
            (λ l. let e : mid.len ≡ end = omega (arith, a.count) in ap (λ i. sets now i ys) e)
            (λ l. sets_from ys now mid.len end (omega arith) a.count (omega arith))
            (cases_lt end (2 ^ 64)) ∙ sym (sets_append xs ys before.out.now before.len);
        count = omega (arith, a.count, b.count, length-append xs ys);
        same_reference = b.same_reference ∙ a.same_reference;
      }

  -- items that were put from the start on stand there, where there is room
  pub wrote : (before after : Cursor T) (items old new : List T) (n : ℕ) → before.len ≡ 0 → before.out.now ≡ old → new ≡ after.out.now → n ≡ after.len → length items ≤ length old → Adds before items after → Wrote old items new n
  wrote before after items old new n start memory final count room a =
      let fits = before.fits in
      let long = ap length memory in
      let e : n ≡ length items = omega (arith, a.count) in
      let is : new ≡ items ++ drop (0 + length items) old =
      final ∙ a.memory ∙ ap (λ l. sets l before.len items) memory ∙ ap (λ i. sets old i items) start ∙ sets-eq items old 0 (omega arith) in
      record {
        count = e;
        front = ap (take n) is ∙ take_at items _ n (sym e);
        rest = ap (drop n) is ∙ drop_at items _ n (sym e) ∙ ap (λ m. drop m old) (omega arith);
      }
