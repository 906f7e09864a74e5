use Rattle.std.proofs.Common.{sym, subst}
use Rattle.std.proofs.lemmas.List.Elements.{Contains-get_or}
use Rattle.lin_members.specs.Settling.{IsRenamed, same}
use Rattle.lin_compressed_frontier.proofs.exchanges.settle.Goals as goal

pub settle_one-requires : goal.settle_one-requires
settle_one-requires c = Contains-get_or c.args.pending.now c.loop-operation.operation-index _ c.loop-operation-test.true

pub loop-operation-init : goal.loop-operation-init
loop-operation-init c =
    subst (IsRenamed c.args.pending.now c.args.placed.now) (sym c.in_ok-now.ensures) same

pub loop-operation-preserved : goal.loop-operation-preserved
loop-operation-preserved c = c.in_ok-now-2.ensures c.args.placed.now c.loop-operation.invariant
