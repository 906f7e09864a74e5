use Rattle.std.proofs.Common.{[], subst, sym}
use Rattle.lin_frontier.specs.Frontiers.{IsPending}
use Rattle.lin_chain.proofs.exact.ExactRun.new.Goals as goal

pub returns-clause-exact : goal.returns-clause-exact
returns-clause-exact c h = record {
  configurations = c.in_ok-frontier.ensures.exact;
  opened = subst (IsPending []) (sym c.new.ensures.items) c.nothing_is_open_at_first.ensures;
}
