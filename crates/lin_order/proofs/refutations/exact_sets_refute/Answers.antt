use Rattle.std.proofs.Common.{take}
use Rattle.lin_order.proofs.Exact.{exact_sets_refute_lem}
use Rattle.lin_order.proofs.refutations.exact_sets_refute.Goals as goal

pub returns : goal.returns
returns c functions h kind sets well_formed count exact fails = exact_sets_refute_lem functions h kind sets count exact
    (λ n. (c.well_formed_is_alternating.ensures functions (take n h)).0 (c.beginnings_are_well_formed.ensures functions h n well_formed)) fails
