use Rattle.std.proofs.Common.{rules, ◌≡◌, ℕ, sym, ◌∙◌, ⊎_elim}
use Rattle.std.proofs.lemmas.Bool.{cases_lt}
use Rattle.flow.specs.Bits.{bit, row}
use Rattle.flow.proofs.FromFn.{made}
use Rattle.flow.proofs.Marks.{row_past}
use Rattle.flow.proofs.rows.StepRelation.turned.Goals as goal

turned_row : (c : goal.After-from_fn) (a b : ℕ) → row c.from_fn.result a b ≡ row c.self.inside.rows b a
turned_row c a b =
    ⊎_elim
    (λ l. made _ _ (λ a set. (b : ℕ) → bit set b ≡ row c.self.inside.rows b a) (λ i y q k. search rules) _ _ c.from_fn.ensures.items a 0 l b)
    (λ l. row_past c.from_fn.result a b (rw c.from_fn.ensures.items.long l) ∙ sym (c.self.invariant.1 b a l))
    (cases_lt a 32)

pub returns-clause-about : goal.returns-clause-about
returns-clause-about c = λ a b. rw (← c.self.view_is) (turned_row c a b)

pub invariant_of-result : goal.invariant_of-result
invariant_of-result c = (c.from_fn.ensures.items.long, λ a b l. turned_row c a b ∙ row_past c.self.inside.rows b a (rw c.self.invariant.0 l))
