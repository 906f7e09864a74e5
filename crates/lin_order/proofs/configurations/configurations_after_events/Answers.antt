use Rattle.lin_order.specs.ConfigurationLaws.{with_event}
use Rattle.lin_order.specs.lemmas.Invoking.{after_invocation}
use Rattle.lin_order.specs.lemmas.Completing.{ok_lem, fail_lem, info_lem}
use Rattle.lin_order.proofs.configurations.configurations_after_events.Goals as goal

pub returns-clause-invocation : goal.returns-clause-invocation
returns-clause-invocation g c functions h event call is well_formed =
    after_invocation _ _ functions h event call is ((c.well_formed_is_alternating.ensures functions (with_event h event)).0 well_formed)

pub returns-clause-ok : goal.returns-clause-ok
returns-clause-ok g c functions h event name reply is well_formed =
    ok_lem _ _ functions h event name reply ((c.well_formed_is_alternating.ensures functions (with_event h event)).0 well_formed) is

pub returns-clause-fail : goal.returns-clause-fail
returns-clause-fail g c functions h event name is well_formed order d =
    fail_lem _ _ functions h event name ((c.well_formed_is_alternating.ensures functions (with_event h event)).0 well_formed) is order d

pub returns-clause-info : goal.returns-clause-info
returns-clause-info g c functions h event name is well_formed order d = info_lem _ _ functions h event name is order d
