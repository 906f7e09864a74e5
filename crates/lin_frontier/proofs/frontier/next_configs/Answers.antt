use Rattle.std.proofs.Common.{sym, arith, []}
use Rattle.std.proofs.lemmas.List.{append-nil}
use Rattle.lin_order.specs.ConfigurationLaws.{with_event}
use Rattle.lin_frontier.specs.lemmas.Counting.{tried_none}
use Rattle.lin_frontier.specs.Sameness.{config_same}
use Rattle.lin_frontier.specs.lemmas.AfterEvents.{frontier_invoked, over_invoked}
use Rattle.lin_frontier.specs.lemmas.Closing.{entries_differ}
use Rattle.lin_frontier.specs.lemmas.Completed.{configs_equivalent, frontier_completed, over_from}
use Rattle.lin_frontier.specs.lemmas.Answered.{if_some_weaker, if_none_weaker}
use Rattle.lin_frontier.proofs.frontier.next_configs.Goals as goal

pub returns-in-Invoke-clause-next : goal.returns-in-Invoke-clause-next
returns-in-Invoke-clause-next g c =
    if_some_weaker _ _ (λ map closed. λ functions h next frontier.
    frontier_invoked _ _ functions h c.args.arrival.now.pending.now c.args.arrival.now.at c.args.arrival.now.event.now next c.args.configs.now.entries c.args.nodes.now frontier c.in-Invoke.call c.in-Invoke.is c.well_formed_is_alternating.ensures
    c.placing_is_legal.ensures c.configurations_after_events.ensures.invocation c.in_ok-kept.kept.entries c.in_ok-kept.ensures c.closure.new.nodes map.entries closed)
    c.closure.result c.closure.ensures.closure

pub returns-in-Invoke-clause-over : goal.returns-in-Invoke-clause-over
returns-in-Invoke-clause-over g c =
    if_none_weaker _ _ (λ beyond. λ functions h next frontier.
    over_invoked _ _ functions h c.args.arrival.now.pending.now c.args.arrival.now.at c.args.arrival.now.event.now next c.args.configs.now.entries c.args.nodes.now frontier c.in-Invoke.call c.in-Invoke.is c.well_formed_is_alternating.ensures
    c.placing_is_legal.ensures c.configurations_after_events.ensures.invocation c.in_ok-kept.kept.entries c.in_ok-kept.ensures c.args.budget beyond)
    c.closure.result c.closure.ensures.over

pub returns-then-len-budget : goal.returns-then-len-budget
returns-then-len-budget g c = record {
  next = tt;
  small = tt;
  over = λ functions h next frontier.
      over_from _ _ (configs_equivalent g.met.O.State.Eq.laws) (config_same g.met.O.SeqObject.same) (with_event h c.args.arrival.now.event.now) c.in_ok-kept.kept.entries c.args.nodes.now c.args.budget (omega arith) c.len.ensures.unique
      (frontier_completed _ _ functions h c.args.arrival.now.event.now next.well_formed c.args.configs.now.entries c.in_ok-kept.kept.entries c.args.nodes.now frontier
      (entries_differ (configs_equivalent g.met.O.State.Eq.laws) (config_same g.met.O.SeqObject.same) c.in_ok-kept.kept.entries c.len.ensures.unique)
      c.in_default.not-Invoke c.configurations_after_events.ensures.ok c.configurations_after_events.ensures.fail c.configurations_after_events.ensures.info c.in_ok-kept.ensures);
  grown = ([], sym (append-nil c.args.nodes.now));
  tried = tried_none _ _;
}

pub returns-clause-next : goal.returns-clause-next
returns-clause-next g c functions h next frontier =
    frontier_completed _ _ functions h c.args.arrival.now.event.now next.well_formed c.args.configs.now.entries c.in_ok-kept.kept.entries c.args.nodes.now frontier
    (entries_differ (configs_equivalent g.met.O.State.Eq.laws) (config_same g.met.O.SeqObject.same) c.in_ok-kept.kept.entries c.len.ensures.unique)
    c.in_default.not-Invoke c.configurations_after_events.ensures.ok c.configurations_after_events.ensures.fail c.configurations_after_events.ensures.info c.in_ok-kept.ensures
