use Rattle.std.proofs.Common.{◌↔◌, IsTrue, Contains, subst}
use Rattle.lin_order.specs.Refutations.{Config}
use Rattle.lin_order.proofs.Carrying.{with_iff}
use Rattle.lin_order.proofs.refutations.holds_with.Goals as goal

pub returns : goal.returns
returns c =
    with_iff c.holds.result c.args.members.now.keys c.args.placed.now c.in_ok-more.more.items c.args.process c.args.outcome.0 c.args.outcome.1 c.in_ok-more.ensures
    (subst (λ (d : Config). IsTrue c.holds.result ↔ Contains c.args.members.now.keys d) c.new-config.ensures c.holds.ensures)
