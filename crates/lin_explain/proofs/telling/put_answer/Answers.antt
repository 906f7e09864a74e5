use Rattle.std.proofs.Common.{◌≤◌, ◌+◌, ◌*◌, ap, length, option_map, refl, subst, sym}
use Rattle.lin_events.specs.declared.meter.Meter.{Meter}
use Rattle.lin_events.specs.Meters.{ticked}
use Rattle.lin_answers.specs.declared.answers.Answer.TheVariants.{No}
use Rattle.lin_explain.specs.Explained.{Explains}
use Rattle.lin_explain.specs.Work.{least_steps}
use Rattle.lin_explain.specs.declared.parts.Parts.TheVariants as Part
use Rattle.lin_explain.proofs.Passing.{own_is, passed_on}
use Rattle.lin_explain.proofs.telling.put_answer.Goals as goal

pub returns-in_ok-failed-in-No-clause-told : goal.returns-in_ok-failed-in-No-clause-told
returns-in_ok-failed-in-No-clause-told c =
    let failed = c.in_ok-failed-in-No.failed in
    let told = c.in_ok-failed-in-No.ensures.told in (
      told.0,
      subst (λ answer. Explains c.args.origin.now.names.now c.args.present.now c.args.asked (option_map (λ p. p.now) c.args.origin.now.places) answer told.0 (Part.No failed)) (sym c.in-No.is) (failed, refl, told.1 c.args.present.now c.in_ok-fallen-in-No.ensures.fallen),
      told.2,
    )

pub returns-in_ok-failed-in-No-clause-counted : goal.returns-in_ok-failed-in-No-clause-counted
returns-in_ok-failed-in-No-clause-counted c =
    let now = c.args.present.now in
    let n = c.in-No.prefix in
    let before = c.args.meter.now.steps in
    let mid = c.fallen_of.new.meter.steps in
    let after = c.put_no.new.meter.steps in
    let first = ap (λ (m : Meter). m.steps) c.in_ok-fallen-in-No.ensures.counted in
    let fallen = c.in_ok-fallen-in-No.ensures.fallen in
    let whole = passed_on before n (4 * length c.in_ok-fallen-in-No.fallen.own.events.items) mid after first c.in_ok-failed-in-No.ensures.counted in
    subst (λ answer. ticked before (least_steps now answer) ≤ after) (sym c.in-No.is)
    (subst (λ own. ticked before (n + 4 * own) ≤ after) (sym (own_is now n c.in_ok-fallen-in-No.fallen fallen)) whole)
