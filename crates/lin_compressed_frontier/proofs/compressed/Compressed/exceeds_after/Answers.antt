use Rattle.std.proofs.Common.{◌+◌, ◌∙◌, ap, arith, length, sym, subst}
use Rattle.lin_order.specs.ConfigurationLaws.{with_event}
use Rattle.lin_frontier.specs.Frontiers.{IsPending}
use Rattle.lin_compressed_frontier.proofs.Alone.{AreSpelled}
use Rattle.lin_frontier.specs.lemmas.Answered.{if_ok_weaker}
use Rattle.lin_frontier.specs.lemmas.Counting.{tried_longer}
use Rattle.lin_compressed_frontier.proofs.compressed.Compressed.exceeds_after.Goals as goal

pub returns-clause-over : goal.returns-clause-over
returns-clause-over g c =
    if_ok_weaker _ _ (λ over says is functions h next frontier.
    says is functions (with_event h c.args.arrival.now.event.now) next.well_formed
    (subst (IsPending (with_event h c.args.arrival.now.event.now)) (sym (c.of-after.ensures ∙ c.deref.ensures.value)) (c.in_ok-operations.ensures.pending functions h next))
    (subst (AreSpelled (g.O.SeqObject.starts c.args.arrival.now.object.now) (g.O.SeqObject.step c.args.arrival.now.object.now) (g.O.SeqObject.observing c.args.arrival.now.object.now) (with_event h c.args.arrival.now.event.now) c.args.nodes.now)
    (sym (c.deref-2.ensures.value ∙ c.self.view_is)) frontier.covering.spelled)) c.exceeds.result c.exceeds.ensures.over

pub returns-clause-tried : goal.returns-clause-tried
returns-clause-tried g c =
    tried_longer c.args.budget (length c.of-after.result) (length c.args.arrival.now.pending.now + 1) _ _ (omega (arith, c.in_ok-operations.ensures.len, ap length (c.of-after.ensures ∙ c.deref.ensures.value))) c.exceeds.ensures.tried
