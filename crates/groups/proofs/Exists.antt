-- Every lawful bond has a listing: one number after another is put in its place, if it is a listed group
use Rattle.std.proofs.Common.{◌≡◌, ℕ, zero, suc, ◌^◌, ◌<◌, Bool, List, [], ◌∷◌, length, get_or, ◌∙◌, sym, ⊎_elim, arith}
use Rattle.std.specs.Prelude.{All, Contains, IsPermutation}
use Rattle.std.proofs.lemmas.List.{get_or_default}
use Rattle.std.proofs.lemmas.List.Elements.{All-cons, All-head, All-tail, All-nil, All-weaker}
use Rattle.std.proofs.lemmas.List.Kept.{AllPairs-cons}
use Rattle.std.proofs.lemmas.List.Sorted.{All-permutation, Contains-permutation, IsPermutation-refl, IsPermutation-cons, IsPermutation-middle, IsPermutation-trans}
use Rattle.std.proofs.lemmas.Bool.{cases_eq}
use Rattle.groups.specs.Groups.{Listed}
use Rattle.groups.specs.Listings.{Before, Listing}
use Rattle.groups.specs.Rows.{Lawful}
use Rattle.groups.specs.Sorting.{Ascend}
use Rattle.groups.proofs.Order.{before_cases, before_trans}
use Rattle.groups.proofs.Deciding.{below, if_listed}

pub contains_at : (xs : List ℕ) (g : ℕ) → Contains xs g → (i : ℕ) × (i < length xs) × (get_or xs i 0 ≡ g)
contains_at xs g (i, l, e) = (i, l, get_or_default xs i 0 g l ∙ e)

-- a list in order, with g put in its place
placed : (g : ℕ) (xs : List ℕ) → Ascend xs → All (λ x. x ≡ g → ⊥) xs → (ys : List ℕ) × Ascend ys × IsPermutation (g ∷ xs) ys
placed g [] up fresh = (g ∷ [], AllPairs-cons Before g [] (All-nil (Before g)) up, IsPermutation-refl (g ∷ []))
placed g (x ∷ xs) up fresh =
    let first : All (Before x) xs = λ k d l. up 0 (suc k) d (omega arith) (omega arith) in
    let rest : Ascend xs = λ i j d l b. up (suc i) (suc j) d (omega arith) (omega arith) in
    ⊎_elim
    (λ b. let (ys, u, p) = placed g xs rest (All-tail (λ y. y ≡ g → ⊥) x xs fresh) in (
      x ∷ ys,
      AllPairs-cons Before x ys (All-permutation (Before x) (g ∷ xs) ys p (All-cons (Before x) g xs b first)) u,
      IsPermutation-trans (g ∷ x ∷ xs) (x ∷ g ∷ xs) (x ∷ ys) (IsPermutation-middle (g ∷ []) x xs) (IsPermutation-cons x (g ∷ xs) ys p),
    ))
    (⊎_elim (λ e. absurd (All-head (λ y. y ≡ g → ⊥) x xs fresh e))
    (λ b. (
      g ∷ x ∷ xs,
      AllPairs-cons Before g (x ∷ xs) (All-cons (Before g) x xs b (All-weaker (Before x) (Before g) (λ y c. before_trans g x y b c) xs first)) up,
      IsPermutation-refl (g ∷ x ∷ xs),
    )))
    (before_cases x g)

module _ (pairs : ℕ → ℕ → Bool) (lawful : Lawful pairs) (first second : ℕ) where
  -- the listed groups below n, in order
  record Upto (xs : List ℕ) (n : ℕ) : Type 0 where
    ascends : Ascend xs
    sound : All (Listed pairs first second) xs
    under : All (λ g. g < n) xs
    whole : (g : ℕ) → Listed pairs first second g → g < n → Contains xs g

  skip : (xs : List ℕ) (n : ℕ) → Upto xs n → (Listed pairs first second n → ⊥) → Upto xs (suc n)
  skip xs n u h = record {
    ascends = u.ascends;
    sound = u.sound;
    under = All-weaker (λ g. g < n) (λ g. g < suc n) (λ g l. omega arith) xs u.under;
    whole = λ g l b. ⊎_elim (λ e. absurd (h (rw e at l))) (λ e. u.whole g l (omega arith)) (cases_eq g n);
  }

  put : (xs : List ℕ) (n : ℕ) → Upto xs n → Listed pairs first second n → (ys : List ℕ) × Upto ys (suc n)
  put xs n u h =
      let (ys, up, same) = placed n xs u.ascends (All-weaker (λ g. g < n) (λ g. g ≡ n → ⊥) (λ g l e. omega arith) xs u.under) in
      let has : (g : ℕ) → Contains (n ∷ xs) g → Contains ys g = λ g. Contains-permutation (n ∷ xs) ys g same in (
        ys,
        record {
          ascends = up;
          sound = All-permutation (Listed pairs first second) (n ∷ xs) ys same (All-cons (Listed pairs first second) n xs h u.sound);
          under = All-permutation (λ g. g < suc n) (n ∷ xs) ys same
              (All-cons (λ g. g < suc n) n xs (omega arith) (All-weaker (λ g. g < n) (λ g. g < suc n) (λ g l. omega arith) xs u.under));
          whole = λ g l b. has g (⊎_elim (λ e. (0, omega arith, sym e)) (λ e. let (k, kl, ke) = u.whole g l (omega arith) in (suc k, omega arith, ke)) (cases_eq g n));
        },
      )

  upto : (n : ℕ) → (xs : List ℕ) × Upto xs n
  upto zero = ([], record { ascends = λ i j d l b. absurd (omega arith); sound = All-nil (Listed pairs first second); under = All-nil (λ g. g < 0); whole = λ g l b. absurd (omega arith) })
  upto (suc n) =
      let (xs, u) = upto n in
      ⊎_elim (λ l. put xs n u l) (λ l. (xs, skip xs n u l)) (if_listed pairs lawful first second n)

  pub a_listing : (xs : List ℕ) × Listing pairs first second xs
  a_listing = let (xs, u) = upto (2 ^ 64) in (
    xs,
    record {
      ascends = λ i j l b. u.ascends i j 0 l b;
      sound = λ i l. u.sound i 0 l;
      whole = λ g l. contains_at xs g (u.whole g l (below pairs lawful first second g l));
    },
  )
