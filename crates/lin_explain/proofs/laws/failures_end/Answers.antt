use Rattle.lin_explain.proofs.Failing.{is_failure}
use Rattle.lin_explain.proofs.laws.failures_end.Goals as goal

pub returns : goal.returns
returns c functions ahead ending fine before fails =
    is_failure c.well_formed_is_alternating.ensures c.args.kind c.configurations_after_events.ensures.invocation c.configurations_after_events.ensures.info
    c.legal_orders_end.ensures functions ahead ending fine c.beginnings_are_well_formed.ensures before fails
