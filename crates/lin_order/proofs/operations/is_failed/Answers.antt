use Rattle.std.proofs.Common.{ap, ◌∙◌}
use Rattle.lin_events.specs.declared.events.Event.{Event}
use Rattle.lin_order.specs.lemmas.Lists.{no_since}
use Rattle.lin_order.specs.lemmas.OneEnd.{one_ending}
use Rattle.lin_order.proofs.operations.is_failed.Goals as goal

pub returns-in_default : goal.returns-in_default
returns-in_default c = no_since (λ failed.
    let same = one_ending c.args.events.now c.args.at c.in-Some.field-0-0 failed.0 c.in-Some.ending.now failed.1 c.in-Some.ensures failed.2 in
    c.in_default.not-Fail failed.3 (ap (λ (e : Event). e.body) same ∙ failed.4))

pub returns-in-None : goal.returns-in-None
returns-in-None c = no_since (λ failed. c.in-None.ensures failed.0 failed.1 failed.2)
