use Rattle.std.proofs.Common.{◌∙◌, sym, subst}
use Rattle.lin_frontier.specs.Frontiers.{IsPending}
use Rattle.lin_compressed_frontier.proofs.Alone.{AreSpelled}
use Rattle.lin_frontier.specs.lemmas.Answered.{if_ok_weaker}
use Rattle.lin_compressed_frontier.proofs.compressed.Compressed.exceeds_before.Goals as goal

pub returns-clause-over : goal.returns-clause-over
returns-clause-over g c =
    if_ok_weaker _ _ (λ over says is functions h well_formed opened frontier.
    says is functions h well_formed (subst (IsPending h) (sym c.of-before.ensures) opened)
    (subst (AreSpelled (g.O.SeqObject.starts c.args.arrival.now.object.now) (g.O.SeqObject.step c.args.arrival.now.object.now) (g.O.SeqObject.observing c.args.arrival.now.object.now) h c.args.nodes.now)
    (sym (c.deref.ensures.value ∙ c.self.view_is)) frontier.covering.spelled)) c.exceeds.result c.exceeds.ensures.over
