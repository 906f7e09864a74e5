use Rattle.lin_explain.proofs.Noes.{noes_stay_inside}
use Rattle.lin_explain.proofs.laws.noes_stay_inside.Goals as goal

pub returns : goal.returns
returns c =
    noes_stay_inside c.beginnings_are_well_formed.ensures c.parts_keep_operations.ensures.well_formed c.parts_keep_orders.ensures.linearizable c.parts_grow.ensures.more
    c.linearizability_is_local.ensures
