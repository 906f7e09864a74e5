use Rattle.std.proofs.Common.{◌≡◌, ◌≤◌, ◌+◌, ◌*◌, ◌∙◌, ap, IfOk, length, option_map, subst, sym}
use Rattle.std.proofs.lemmas.Result.{on_ok_weaker}
use Rattle.lin_events.specs.declared.meter.Meter.{Meter}
use Rattle.lin_events.specs.Meters.{ticked}
use Rattle.lin_answers.specs.Answers.{IsAnswer}
use Rattle.lin_answers.specs.Edits.{Present}
use Rattle.lin_explain.specs.Explained.{Explains, scope_of}
use Rattle.lin_explain.specs.Work.{least_steps, most_passes}
use Rattle.lin_session.specs.Sessions.{Standing}
use Rattle.lin_report.proofs.explaining.told_of.Goals as goal
use Rattle.lin_report.proofs.explaining.told_of.Goals.{After-explanation_of-told, After-keep_meter, After-present}

-- the present history is the session's
present_is : (c : After-present) → c.present.result ≡ c.args.session.now.present
present_is c = c.present.ensures ∙ ap (λ (s : Standing). s.present) c.take_meter-meter.ensures.others

-- the session as it was, with what is counted now
same_is : (c : After-keep_meter) → c.keep_meter.new.self ≡ record c.args.session.now { meter = c.explanation_of-told.new.meter }
same_is c = c.keep_meter.ensures ∙ ap (λ (s : Standing). record s { meter = c.explanation_of-told.new.meter }) c.take_meter-meter.ensures.others

pub explanation_of-told-requires : goal.explanation_of-told-requires
explanation_of-told-requires c = subst (λ (now : Present). IsAnswer now (scope_of c.args.asked.key) c.args.answer.now) (sym (present_is (goal.at.explanation_of-told-requires c).After-present)) c.requires

pub returns-clause-told : goal.returns-clause-told
returns-clause-told c =
    subst (λ (now : Present). IfOk c.explanation_of-told.result (λ told. Explains c.args.names.now now c.args.asked (option_map (λ p. p.now) c.args.places) c.args.answer.now told.lines.items told.parts))
    (present_is (goal.at.returns-clause-told c).After-present) c.explanation_of-told.ensures.told

pub returns-clause-same : goal.returns-clause-same
returns-clause-same c =
    let is = same_is (goal.at.returns-clause-same c).After-keep_meter in
    is ∙ ap (λ (m : Meter). record c.args.session.now { meter = m }) (sym (ap (λ (s : Standing). s.meter) is))

pub returns-clause-counted : goal.returns-clause-counted
returns-clause-counted c =
    let step = goal.at.returns-clause-counted c in
    let is = ap (λ (s : Standing). s.meter.steps) (same_is step.After-keep_meter) in
    let first = ap (λ (m : Meter). m.steps) c.take_meter-meter.ensures.counted in
    let answer = c.args.answer.now in
    on_ok_weaker c.explanation_of-told.result
    (λ least. subst (λ n. ticked c.args.session.now.meter.steps (least_steps c.args.session.now.present answer) ≤ n) (sym is)
    (subst (λ (now : Present). ticked c.args.session.now.meter.steps (least_steps now answer) ≤ c.explanation_of-told.new.meter.steps) (present_is step.After-present)
    (subst (λ n. ticked n (least_steps c.present.result answer) ≤ c.explanation_of-told.new.meter.steps) first least)))
    c.explanation_of-told.ensures.counted

pub returns-clause-most : goal.returns-clause-most
returns-clause-most c =
    let step = goal.at.returns-clause-most c in
    let is = ap (λ (s : Standing). s.meter.steps) (same_is step.After-keep_meter) in
    let first = ap (λ (m : Meter). m.steps) c.take_meter-meter.ensures.counted in
    subst (λ n. n ≤ c.args.session.now.meter.steps + most_passes c.args.answer.now * length c.args.session.now.present.history) (sym is)
    (subst (λ (now : Present). c.explanation_of-told.new.meter.steps ≤ c.args.session.now.meter.steps + most_passes c.args.answer.now * length now.history) (present_is step.After-present)
    (subst (λ n. c.explanation_of-told.new.meter.steps ≤ n + most_passes c.args.answer.now * length c.present.result.history) first c.explanation_of-told.ensures.most))

pub returns-clause-scans : goal.returns-clause-scans
returns-clause-scans c =
    let is = ap (λ (s : Standing). s.meter.scans) (same_is (goal.at.returns-clause-scans c).After-keep_meter) in
    is ∙ c.explanation_of-told.ensures.scans ∙ ap (λ (m : Meter). m.scans) c.take_meter-meter.ensures.counted
