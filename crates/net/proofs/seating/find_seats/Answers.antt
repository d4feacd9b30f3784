use Rattle.std.proofs.Common.{rules, ◌≡◌, Err, sym, ap, ◌∙◌, arith}
use Rattle.std.proofs.lemmas.Result.{err_from_is_err_and}
use Rattle.std.specs.Option.{ok_or}
use Rattle.net.specs.Seating.{sits_by}
use Rattle.net.proofs.Seats.{some_first, none_first, position_below}
use Rattle.net.proofs.Seated.{all_seated, seated_next, seating_none, up_to}
use Rattle.net.proofs.seating.find_seats.Goals as goal

pub loop-step-init : goal.loop-step-init
loop-step-init c = seating_none c.args.relations.now c.args.places.list.now _ (λ i. 32) (search rules)

pub bounds-seats-step : goal.bounds-seats-step
bounds-seats-step c = omega (arith, (up_to c.loop-step.invariant c.in-Some.ensures.steps).0, c.loop-step.invariant.long)

pub overflow_cast-seats : goal.overflow_cast-seats
overflow_cast-seats c =
    let test = sits_by c.args.relations.now c.in-Some.step in
    let places = c.args.places.list.now in
    let p = some_first test places c.in_ok-number.number (sym c.in_ok-number.ensures.ok_part ∙ c.seat.ensures) in
    let b = position_below test places p.0 in
    let few = c.args.places.few in
    omega (arith, p.1)

pub loop-step-preserved : goal.loop-step-preserved
loop-step-preserved c =
    let p = some_first (sits_by c.args.relations.now c.in-Some.step) c.args.places.list.now c.in_ok-number.number (sym c.in_ok-number.ensures.ok_part ∙ c.seat.ensures) in
    seated_next c.loop-step.invariant c.in-Some.ensures.steps p.0 p.1

pub returns : goal.returns
returns c = all_seated c.loop-step.invariant c.in-None.ensures.steps.0

pub returns-in_err-number : goal.returns-in_err-number
returns-in_err-number c =
    let p = err_from_is_err_and c.from_residual.result c.from_residual.ensures.1 in
    let e : Err c.in_err-number.field-0.0 ≡ Err (record { step = c.in-Some.step }) =
    c.in_err-number.ensures.value ∙ ap (λ o. ok_or o (record { step = c.in-Some.step })) c.in_err-number.ensures.ok_part in
    let same : c.in_err-number.field-0.0 ≡ record { step = c.in-Some.step } = cc in
    let u = up_to c.loop-step.invariant c.in-Some.ensures.steps in
    rw (p.1, p.2, same) (record {
      step = u.0;
      loops = u.1;
      unseated = none_first (sits_by c.args.relations.now c.in-Some.step) c.args.places.list.now (sym c.in_err-number.ensures.ok_part ∙ c.seat.ensures);
      lowest = λ s l h. (u.2 s l h).0;
    })
