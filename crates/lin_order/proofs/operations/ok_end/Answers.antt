use Rattle.std.proofs.Common.{ap, ◌∙◌}
use Rattle.lin_events.specs.declared.events.Event.{Event}
use Rattle.lin_order.specs.lemmas.OneEnd.{one_ending}
use Rattle.lin_order.proofs.operations.ok_end.Goals as goal

pub returns-in_default : goal.returns-in_default
returns-in_default c end reply ok = c.in_default.ensures end ok.0 ok.1

pub returns-in_default-body : goal.returns-in_default-body
returns-in_default-body c end reply ok =
    let same = one_ending c.args.events.now c.args.at c.in-Some.end end c.in-Some.ending.now ok.0 c.in-Some.ensures ok.1 in
    c.in_default-body.not-Ok ok.2 reply (ap (λ (e : Event). e.body) same ∙ ok.3)
