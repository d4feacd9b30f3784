-- Two steps of one kind that are told alike are one. Assumes nothing.
use Rattle.std.specs.Prelude.{◌≡◌, ℕ, ◌-◌, Bool, true, ◌&&◌, List, ◌++◌, length, replicate, nat_eq, ◌==◌, refl}
use Rattle.std.proofs.Common.{true≢false, sym, ap, ◌∙◌, arith}
use mathlib.Core.HLevel.{is_prop→PathP, ×_prop}
use mathlib.Core.List.{is_set}
use Rattle.std.proofs.Math.Bool.{Bool-set}
use Rattle.std.proofs.Math.Bridge.{le_prop}
use Rattle.std.proofs.Math.Nat.{ℕ_set}
use Rattle.std.proofs.lemmas.List.{length-take-le, take-append-drop}
use Rattle.steps.specs.declared.names.Name as name
use Rattle.steps.specs.declared.codes.Code as code
use Rattle.std.proofs.lemmas.Bool.{and_parts, and_from, eqb-true, eq-eqb}
use Rattle.std.specs.Cmp.{Equal-is, IsTotalOrder, IsPartialOrder, both_ways, nat_cmp_total, on_total, then_total, partial_order_from_agreeing_total}
use Rattle.std.specs.Cmp.Lexicographic.{on_texts, pointwise, bytes_decides}
use Rattle.std.specs.FinMap.{nat_cmp-IsAntisymmetric}
use Rattle.std.specs.declared.cmp.Ordering.{Ordering}
use Rattle.std.specs.declared.cmp.Ordering.TheVariants.{Less, Equal, Greater}
use Rattle.std.specs.Ordering.{as_partial_cmp, is_eq, nat_cmp, ordering_then}
use Rattle.steps.specs.Orders.{OrderLaws, order_laws}
use Rattle.steps.specs.Lexical.{lexical_laws}
use Rattle.steps.specs.Ranges.{IsName}
use Rattle.steps.specs.Kinds.{code_order, name_order, name_text}

pub same_code : (a b : code.Code) → a.unit ≡ b.unit → a.code ≡ b.code → a ≡ b
same_code a b p q =
    λ i. record {
      unit = p i;
      code = q i;
      lawful = is_prop→PathP (λ j. code.lawful-type (p j) (q j)) (λ j. ×_prop le_prop le_prop) a.lawful b.lawful i;
    }

same_parts : (a b : name.Name) → a.bytes ≡ b.bytes → a.len ≡ b.len → a ≡ b
same_parts a b p q = λ i. record {
  bytes = p i;
  len = q i;
  lawful = is_prop→PathP (λ j. name.lawful-type (p j) (q j))
      (λ j u v k. (ℕ_set _ _ u.0 v.0 k, le_prop u.1 v.1 k, is_name_prop _ u.2 v.2 k, is_set ℕ_set _ _ u.3 v.3 k)) a.lawful b.lawful i;
}
  where
    is_name_prop : (bs : List ℕ) (u v : IsName bs) → u ≡ v
    is_name_prop bs u v = λ k. (le_prop u.0 v.0 k, le_prop u.1 v.1 k, Bool-set _ _ u.2 v.2 k)

pub same_name : (a b : name.Name) → name_text a ≡ name_text b → a ≡ b
same_name a b e =
    let l : a.len ≡ b.len = sym (length-take-le a.len a.bytes (omega arith)) ∙ ap length e ∙ length-take-le b.len b.bytes (omega arith) in
    same_parts a b (sym (whole a) ∙ ap (λ t. padded t a.len) e ∙ ap (padded (name_text b)) l ∙ whole b) l
  where
    padded : List ℕ → ℕ → List ℕ
    padded t n = t ++ replicate (8 - n) 0

    whole : (x : name.Name) → padded (name_text x) x.len ≡ x.bytes
    whole x = ap (λ t. name_text x ++ t) (sym x.lawful.3) ∙ take-append-drop x.len x.bytes

-- a test that tells equal steps from others is the order's: its ties are the equal steps alone
equal_ties : {S : Type 0} {order : S → S → Ordering} → OrderLaws order → (same : S → S → Bool) → ((a b : S) → same a b ≡ true → a ≡ b) → ((a : S) → same a a ≡ true) → (a b : S) → same a b ≡ is_eq (order a b)
equal_ties {order = order} laws same to itself a b = both_ways (same a b) (is_eq (order a b))
    (λ e. ap (λ n. is_eq (order a n)) (sym (to a b e)) ∙ ap is_eq (laws.equal_is_same a))
    (λ e. ap (same a) (sym (laws.same_is_equal a b ((Equal-is (order a b)).0 e))) ∙ itself a)

pub code_total : IsTotalOrder code_order
code_total = then_total (on_total (λ c. c.unit) nat_cmp_total) (on_total (λ c. c.code) nat_cmp_total)

pub code_laws : OrderLaws code_order
code_laws = order_laws code_total (λ a b e.
    let parts = both_equal (nat_cmp a.unit b.unit) (nat_cmp a.code b.code) e in
    same_code a b (nat_cmp-IsAntisymmetric _ _ parts.0) (nat_cmp-IsAntisymmetric _ _ parts.1))
  where
    both_equal : (r s : Ordering) → ordering_then r s ≡ Equal → (r ≡ Equal) × (s ≡ Equal)
    both_equal Less s e = absurd (true≢false (ap is_eq (sym e)))
    both_equal Equal s e = (refl, e)
    both_equal Greater s e = absurd (true≢false (ap is_eq (sym e)))

pub code_ties : (a b : code.Code) → ((a.unit == b.unit) && (a.code == b.code)) ≡ is_eq (code_order a b)
code_ties = equal_ties code_laws (λ a b. (a.unit == b.unit) && (a.code == b.code)) (λ a b e.
    let parts = and_parts (a.unit == b.unit) (a.code == b.code) e in
    same_code a b (eqb-true a.unit b.unit parts.0) (eqb-true a.code b.code parts.1))
    (λ a. and_from (a.unit == a.unit) (a.code == a.code) (eq-eqb a.unit a.unit refl) (eq-eqb a.code a.code refl))

pub code_partial : IsPartialOrder (λ a b. (a.unit == b.unit) && (a.code == b.code)) (as_partial_cmp code_order)
code_partial = partial_order_from_agreeing_total code_order code_total (λ x y. refl) code_ties

pub name_laws : OrderLaws name_order
name_laws = lexical_laws name_text same_name

pub name_total : IsTotalOrder name_order
name_total = on_texts name_text

pub name_ties : (a b : name.Name) → (pointwise nat_eq a.bytes b.bytes && (a.len == b.len)) ≡ is_eq (name_order a b)
name_ties = equal_ties name_laws (λ a b. pointwise nat_eq a.bytes b.bytes && (a.len == b.len)) (λ a b e.
    let parts = and_parts (pointwise nat_eq a.bytes b.bytes) (a.len == b.len) e in
    same_parts a b ((bytes_decides a.bytes b.bytes).0 parts.0) (eqb-true a.len b.len parts.1))
    (λ a. and_from (pointwise nat_eq a.bytes a.bytes) (a.len == a.len) ((bytes_decides a.bytes a.bytes).1 refl) (eq-eqb a.len a.len refl))

pub name_partial : IsPartialOrder (λ a b. pointwise nat_eq a.bytes b.bytes && (a.len == b.len)) (as_partial_cmp name_order)
name_partial = partial_order_from_agreeing_total name_order name_total (λ x y. refl) name_ties
