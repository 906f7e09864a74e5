use Rattle.std.proofs.Common.{[], subst, sym}
use Rattle.lin_frontier.specs.Frontiers.{IsPending}
use Rattle.lin_possibilities.proofs.run.Run.new.Goals as goal

pub returns-clause-known : goal.returns-clause-known
returns-clause-known c h = record {
  compressed = c.in_ok-frontier.ensures.exact;
  opened = subst (IsPending []) (sym c.new.ensures.items) c.nothing_is_open_at_first.ensures;
}
