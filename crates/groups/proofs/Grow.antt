-- A group grows to a largest one, one point after another
use Rattle.std.proofs.Common.{◌≡◌, ℕ, ◌+◌, ◌^◌, ◌<◌, Bool, true, ◌⊎◌, ◌∙◌, inl, inr, ⊎_elim, arith}
use lib.Bits.{bit_and, bit_or}
use Rattle.std.proofs.lemmas.Bool.{cases_eq}
use Rattle.groups.specs.Groups.{In, Paired, Fits, Largest}
use Rattle.groups.specs.Rows.{Row, Lawful}
use Rattle.groups.proofs.Sets.{in_or_l, in_or_r, or_in, in_one, one_in, within, from_within}

-- d holds s, is paired throughout, and has each point below x that could be added
pub record Growing (pairs : ℕ → ℕ → Bool) (s d x : ℕ) : Type 0 where
  pub holds : (p : ℕ) → In s p → In d p
  pub paired : Paired pairs d
  pub full : (y : ℕ) → y < x → Fits pairs d y → In d y

module _ (pairs : ℕ → ℕ → Bool) (lawful : Lawful pairs) where
  pub grow_start : (s : ℕ) → Paired pairs s → Growing pairs s s 0
  grow_start s h = record { holds = λ p i. i; paired = h; full = λ y l. absurd (omega arith) }

  pub grow_add : (s d x row : ℕ) → Row pairs x row → Growing pairs s d x → bit_and (bit_or d (2 ^ x)) row ≡ bit_or d (2 ^ x) → Growing pairs s (bit_or d (2 ^ x)) (x + 1)
  grow_add s d x row r h t =
      let e = bit_or d (2 ^ x) in
      let at : (p : ℕ) → In e p → pairs x p ≡ true = λ p i. r.from p (within e row t p i) in
      let back : (p q : ℕ) → In e p → In e q → (In d p ⊎ (x ≡ p)) → (In d q ⊎ (x ≡ q)) → pairs p q ≡ true = λ p q i j a b.
      ⊎_elim (λ ip. ⊎_elim (λ jq. h.paired p q ip jq) (λ xq. rw (← xq) (lawful.even p x ∙ at p i)) b) (λ xp. rw (← xp) (at q j)) a in
      let split : (p : ℕ) → In e p → In d p ⊎ (x ≡ p) = λ p i. ⊎_elim inl (λ o. inr (one_in x p o)) (or_in d (2 ^ x) p i) in
      record {
        holds = λ p i. in_or_l d (2 ^ x) p (h.holds p i);
        paired = λ p q i j. back p q i j (split p i) (split q j);
        full = λ y l f. ⊎_elim (λ ye. rw ye (in_or_r d (2 ^ x) x (in_one x)))
            (λ ne. in_or_l d (2 ^ x) y (h.full y (omega arith) (f.0, λ p i. f.1 p (in_or_l d (2 ^ x) p i)))) (cases_eq y x);
      }

  pub grow_skip : (s d x row : ℕ) → Row pairs x row → Growing pairs s d x → (bit_and (bit_or d (2 ^ x)) row ≡ bit_or d (2 ^ x) → ⊥) → Growing pairs s d (x + 1)
  grow_skip s d x row r h t = record {
    holds = h.holds;
    paired = h.paired;
    full = λ y l f. ⊎_elim
        (λ ye. let g = (rw ye at f) in absurd (t (from_within (bit_or d (2 ^ x)) row (λ p i. r.to p (⊎_elim (λ ip. lawful.even x p ∙ g.1 p ip) (λ o. rw (← one_in x p o) g.0) (or_in d (2 ^ x) p i))))))
        (λ ne. h.full y (omega arith) f) (cases_eq y x);
  }

  pub grow_end : (s d : ℕ) → ((p : ℕ) × In s p) → Growing pairs s d 64 → Largest pairs d
  grow_end s d (p, i) h = record { some = (p, h.holds p i); paired = h.paired; full = λ x f. h.full x (lawful.below x x f.0) f }
