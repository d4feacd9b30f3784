-- A bond and two marks have one listing
use Rattle.std.proofs.Common.{◌≡◌, ℕ, zero, suc, ◌<◌, ◌≤◌, Bool, List, length, get_or, sym, ap, ◌∙◌, ⊎_elim, arith}
use Rattle.std.proofs.lemmas.List.{ext_get_or}
use Rattle.std.proofs.lemmas.Bool.{cases_order, cases_lt}
use Rattle.groups.specs.Listings.{Listing}
use Rattle.groups.proofs.Order.{clash, cross}

module _ (pairs : ℕ → ℕ → Bool) (first second : ℕ) where
  -- places below n have the same group in both
  agree : (xs ys : List ℕ) → Listing pairs first second xs → Listing pairs first second ys
      → (n : ℕ) → (i : ℕ) → i < n → i < length xs → i < length ys → get_or xs i 0 ≡ get_or ys i 0
  agree xs ys a b zero i l lx ly = absurd (omega arith)
  agree xs ys a b (suc n) i l lx ly =
      let old = agree xs ys a b n in
      let (j, jl, je) = b.whole (get_or xs i 0) (a.sound i lx) in
      let (k, kl, ke) = a.whole (get_or ys i 0) (b.sound i ly) in
      ⊎_elim (λ e. sym je ∙ ap (λ m. get_or ys m 0) e)
      (⊎_elim
      (λ lt. absurd (clash (get_or xs j 0) (get_or xs i 0) (old j (omega arith) (omega arith) jl ∙ je) (a.ascends j i lt lx)))
      (λ gt. ⊎_elim (λ e. ap (λ m. get_or xs m 0) (sym e) ∙ ke)
      (⊎_elim
      (λ lt. absurd (clash (get_or ys k 0) (get_or ys i 0) (sym (old k (omega arith) kl (omega arith)) ∙ ke) (b.ascends k i lt ly)))
      (λ kt. absurd (cross (get_or xs i 0) (get_or xs k 0) (get_or ys i 0) (get_or ys j 0) (a.ascends i k kt kl) ke (b.ascends i j gt jl) je)))
      (cases_order k i)))
      (cases_order j i)

  no_longer : (xs ys : List ℕ) → Listing pairs first second xs → Listing pairs first second ys → length ys ≤ length xs
  no_longer xs ys a b =
      ⊎_elim (λ lt. let n = length xs in
      let (j, jl, je) = a.whole (get_or ys n 0) (b.sound n lt) in
      absurd (clash (get_or ys j 0) (get_or ys n 0) (sym (agree xs ys a b (suc n) j (omega arith) jl (omega arith)) ∙ je) (b.ascends j n jl lt)))
      (λ le. le) (cases_lt (length xs) (length ys))

  pub one_listing : (xs ys : List ℕ) → Listing pairs first second xs → Listing pairs first second ys → xs ≡ ys
  one_listing xs ys a b =
      let p = no_longer xs ys a b in
      let q = no_longer ys xs b a in
      ext_get_or 0 xs ys (omega arith) (λ i l. agree xs ys a b (suc i) i (omega arith) l (omega arith))
