use Rattle.std.proofs.Common.{sym, subst, arith}
use Rattle.std.proofs.lemmas.Grind.{common_steps}
use Rattle.lin_order.specs.ConfigurationLaws.{with_event}
use Rattle.lin_members.specs.Compressed.{IsCompressed}
use Rattle.lin_compressed_frontier.proofs.Invoked.{kept_compressed}
use Rattle.lin_compressed_frontier.proofs.compressed.Compressed.same_or_over.Goals as goal

pub returns-then-branch-clause-over : goal.returns-then-branch-clause-over
returns-then-branch-clause-over g c is functions h next frontier =
    c.in_ok-is_over.ensures.over c.if-branch.true functions h next
    (kept_compressed (g.O.SeqObject.starts c.args.arrival.now.object.now) (g.O.SeqObject.step c.args.arrival.now.object.now) (g.O.SeqObject.observing c.args.arrival.now.object.now) (g.O.SeqObject.overwriting c.args.arrival.now.object.now) functions h c.args.arrival.now.event.now next.well_formed
    ((c.well_formed_is_alternating.ensures functions (with_event h c.args.arrival.now.event.now)).0 next.well_formed) (g.O.SeqObject.unchanged c.args.arrival.now.object.now) c.members_after_events.ensures.invocation
    c.overwritten_after_events.ensures.invocation c.rounds_after_events.ensures.invocation c.members_after_events.ensures.info c.overwritten_after_events.ensures.info c.rounds_after_events.ensures.info
    c.rounds_allow_overwritten.ensures.on c.args.nodes.now c.args.self.now c.requires frontier)

pub returns-clause-same : goal.returns-clause-same
returns-clause-same g c is functions h next frontier =
    subst (IsCompressed (g.O.SeqObject.starts c.args.arrival.now.object.now) (g.O.SeqObject.step c.args.arrival.now.object.now) (g.O.SeqObject.observing c.args.arrival.now.object.now) (g.O.SeqObject.overwriting c.args.arrival.now.object.now) (with_event h c.args.arrival.now.event.now) c.args.self.now)
    (sym c.is_over.ensures.nodes)
    (kept_compressed (g.O.SeqObject.starts c.args.arrival.now.object.now) (g.O.SeqObject.step c.args.arrival.now.object.now) (g.O.SeqObject.observing c.args.arrival.now.object.now) (g.O.SeqObject.overwriting c.args.arrival.now.object.now) functions h c.args.arrival.now.event.now next.well_formed
    ((c.well_formed_is_alternating.ensures functions (with_event h c.args.arrival.now.event.now)).0 next.well_formed) (g.O.SeqObject.unchanged c.args.arrival.now.object.now) c.members_after_events.ensures.invocation
    c.overwritten_after_events.ensures.invocation c.rounds_after_events.ensures.invocation c.members_after_events.ensures.info c.overwritten_after_events.ensures.info c.rounds_after_events.ensures.info
    c.rounds_allow_overwritten.ensures.on c.args.nodes.now c.args.self.now c.requires frontier)

pub returns-clause-answers : goal.returns-clause-answers
returns-clause-answers g c = grind (arith, common_steps)

pub returns-clause-nodes : goal.returns-clause-nodes
returns-clause-nodes g c = grind (arith, common_steps)

pub returns-clause-over : goal.returns-clause-over
returns-clause-over g c = grind (arith, common_steps)

pub returns-clause-scans : goal.returns-clause-scans
returns-clause-scans g c = grind (arith, common_steps)

pub returns-clause-steps : goal.returns-clause-steps
returns-clause-steps g c = grind (arith, common_steps)

pub returns-clause-tries : goal.returns-clause-tries
returns-clause-tries g c = grind (arith, common_steps)

pub returns-in_err-is_over-clause-answers : goal.returns-in_err-is_over-clause-answers
returns-in_err-is_over-clause-answers g c = grind (arith, common_steps)

pub returns-in_err-is_over-clause-nodes : goal.returns-in_err-is_over-clause-nodes
returns-in_err-is_over-clause-nodes g c = grind (arith, common_steps)

pub returns-in_err-is_over-clause-over : goal.returns-in_err-is_over-clause-over
returns-in_err-is_over-clause-over g c = grind (arith, common_steps)

pub returns-in_err-is_over-clause-same : goal.returns-in_err-is_over-clause-same
returns-in_err-is_over-clause-same g c = grind (arith, common_steps)

pub returns-in_err-is_over-clause-scans : goal.returns-in_err-is_over-clause-scans
returns-in_err-is_over-clause-scans g c = grind (arith, common_steps)

pub returns-in_err-is_over-clause-steps : goal.returns-in_err-is_over-clause-steps
returns-in_err-is_over-clause-steps g c = grind (arith, common_steps)

pub returns-in_err-is_over-clause-tries : goal.returns-in_err-is_over-clause-tries
returns-in_err-is_over-clause-tries g c = grind (arith, common_steps)

pub returns-then-branch-clause-answers : goal.returns-then-branch-clause-answers
returns-then-branch-clause-answers g c = grind (arith, common_steps)

pub returns-then-branch-clause-nodes : goal.returns-then-branch-clause-nodes
returns-then-branch-clause-nodes g c = grind (arith, common_steps)

pub returns-then-branch-clause-same : goal.returns-then-branch-clause-same
returns-then-branch-clause-same g c = grind (arith, common_steps)

pub returns-then-branch-clause-scans : goal.returns-then-branch-clause-scans
returns-then-branch-clause-scans g c = grind (arith, common_steps)

pub returns-then-branch-clause-steps : goal.returns-then-branch-clause-steps
returns-then-branch-clause-steps g c = grind (arith, common_steps)

pub returns-then-branch-clause-tries : goal.returns-then-branch-clause-tries
returns-then-branch-clause-tries g c = grind (arith, common_steps)
