use Rattle.lin_explain.proofs.FailureLaws.{is_explained}
use Rattle.lin_explain.proofs.laws.failures_mean.Goals as goal

pub returns : goal.returns
returns c h ending is =
    is_explained c.well_formed_is_alternating.ensures c.bad_positions.ensures.beginnings c.args.kind c.configurations_after_events.ensures.ok
    c.configurations_after_events.ensures.fail c.legal_orders_end.ensures h ending is
