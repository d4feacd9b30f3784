-- Whether a set is a listed group is decided
use Rattle.std.proofs.Common.{◌≡◌, ℕ, zero, suc, ◌^◌, ◌<◌, Bool, true, ◌⊎◌, inl, inr, ⊎_elim, arith}
use Rattle.std.proofs.lemmas.Bool.{cases_eq, cases_lt, cases_Bool, both_ways}
use Rattle.groups.specs.Groups.{In, Paired, Fits, Touches, Listed}
use Rattle.groups.specs.Rows.{Lawful}
use Rattle.groups.proofs.Sets.{in_dec, small, in_small}

abbrev pub Either : Type 0 → Type 0
Either P = P ⊎ (P → ⊥)

if_bool : (b : Bool) → Either (b ≡ true)
if_bool b = ⊎_elim inl (λ f. inr (λ t. both_ways b f t)) (cases_Bool b)

if_imp : (A B : Type 0) → Either A → Either B → Either (A → B)
if_imp A B a b = ⊎_elim (λ x. ⊎_elim (λ y. inl (λ _. y)) (λ y. inr (λ f. y (f x))) b) (λ x. inl (λ y. absurd (x y))) a

if_and : (A B : Type 0) → Either A → Either B → Either (A × B)
if_and A B a b = ⊎_elim (λ x. ⊎_elim (λ y. inl (x, y)) (λ y. inr (λ f. y f.1)) b) (λ x. inr (λ f. x f.0)) a

-- a decided fact holds of each number below n, or fails at one
all_below : (P : ℕ → Type 0) → ((p : ℕ) → Either (P p)) → (n : ℕ) → ((p : ℕ) → p < n → P p) ⊎ ((p : ℕ) × (p < n) × (P p → ⊥))
all_below P d zero = inl (λ p l. absurd (omega arith))
all_below P d (suc n) =
    ⊎_elim
    (λ all. ⊎_elim (λ h. inl (λ p l. ⊎_elim (λ e. rw e h) (λ e. all p (omega arith)) (cases_eq p n))) (λ h. inr (n, omega arith, h)) (d n))
    (λ f. let (p, l, h) = f in inr (p, omega arith, h)) (all_below P d n)

if_all : (P : ℕ → Type 0) → ((p : ℕ) → Either (P p)) → (n : ℕ) → Either ((p : ℕ) → p < n → P p)
if_all P d n = ⊎_elim inl (λ f. let (p, l, h) = f in inr (λ all. h (all p l))) (all_below P d n)

if_some : (P : ℕ → Type 0) → ((p : ℕ) → Either (P p)) → (n : ℕ) → Either ((p : ℕ) × (p < n) × P p)
if_some P d n =
    ⊎_elim (λ all. inr (λ s. all s.0 s.1 s.2)) (λ f. let (p, l, h) = f in inl (p, l, ⊎_elim (λ y. y) (λ y. absurd (h y)) (d p)))
    (all_below (λ p. P p → ⊥) (λ p. ⊎_elim (λ y. inr (λ f. f y)) inl (d p)) n)

module _ (pairs : ℕ → ℕ → Bool) (lawful : Lawful pairs) (first second : ℕ) where
  pub below : (g : ℕ) → Listed pairs first second g → g < 2 ^ 64
  below g l = small 64 g (λ p i. lawful.below p p (l.largest.paired p p i i))

  if_touches : (g m : ℕ) → g < 2 ^ 64 → Either (Touches g m)
  if_touches g m l = ⊎_elim (λ s. let (p, _, t) = s in inl (p, t.0, t.1)) (λ s. inr (λ t. s (t.0, in_small 64 g t.0 l t.1, (t.1, t.2))))
      (if_some (λ p. In g p × In m p) (λ p. if_and (In g p) (In m p) (in_dec g p) (in_dec m p)) 64)

  if_paired : (g : ℕ) → g < 2 ^ 64 → Either (Paired pairs g)
  if_paired g l =
      let row : ℕ → ℕ → Type 0 = λ p q. In g p → In g q → pairs p q ≡ true in
      ⊎_elim (λ a. inl (λ p q i j. a p (in_small 64 g p l i) q (in_small 64 g q l j) i j)) (λ a. inr (λ h. a (λ p _ q _. h p q)))
      (if_all (λ p. (q : ℕ) → q < 64 → row p q)
      (λ p. if_all (row p) (λ q. if_imp (In g p) (In g q → pairs p q ≡ true) (in_dec g p) (if_imp (In g q) (pairs p q ≡ true) (in_dec g q) (if_bool (pairs p q)))) 64) 64)

  if_fits : (g x : ℕ) → g < 2 ^ 64 → Either (Fits pairs g x)
  if_fits g x l = if_and (pairs x x ≡ true) ((p : ℕ) → In g p → pairs p x ≡ true) (if_bool (pairs x x))
      (⊎_elim (λ a. inl (λ p i. a p (in_small 64 g p l i) i)) (λ a. inr (λ h. a (λ p _. h p)))
      (if_all (λ p. In g p → pairs p x ≡ true) (λ p. if_imp (In g p) (pairs p x ≡ true) (in_dec g p) (if_bool (pairs p x))) 64))

  if_full : (g : ℕ) → g < 2 ^ 64 → Either ((x : ℕ) → Fits pairs g x → In g x)
  if_full g l = ⊎_elim (λ a. inl (λ x f. a x (lawful.below x x f.0) f)) (λ a. inr (λ h. a (λ x _. h x)))
      (if_all (λ x. Fits pairs g x → In g x) (λ x. if_imp (Fits pairs g x) (In g x) (if_fits g x l) (in_dec g x)) 64)

  pub if_listed : (g : ℕ) → Either (Listed pairs first second g)
  if_listed g = ⊎_elim
      (λ l. ⊎_elim
      (λ h. let ((p, f), (t, u)) = h in inl (record { largest = record { some = (t.0, t.1); paired = p; full = f }; one = t; two = u }))
      (λ h. inr (λ k. h ((k.largest.paired, k.largest.full), (k.one, k.two))))
      (if_and (Paired pairs g × ((x : ℕ) → Fits pairs g x → In g x)) (Touches g first × Touches g second)
      (if_and (Paired pairs g) ((x : ℕ) → Fits pairs g x → In g x) (if_paired g l) (if_full g l))
      (if_and (Touches g first) (Touches g second) (if_touches g first l) (if_touches g second l))))
      (λ l. inr (λ k. let b = below g k in omega arith)) (cases_lt g (2 ^ 64))
