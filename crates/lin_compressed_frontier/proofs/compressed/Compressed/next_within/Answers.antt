use Rattle.std.proofs.Common.{◌≡◌, ◌∙◌, subst, sym}
use Rattle.lin_order.specs.ConfigurationLaws.{with_event}
use Rattle.lin_members.specs.Compressed.{IsCompressed}
use Rattle.lin_compressed_frontier.proofs.compressed.Compressed.next_within.Goals.{else-many-via-then-many+then-arrival-gt0+in_ok-exceeds_before+else-branch, else-many-via-then-many+else-arrival-gt0, else-many-via-else-many}
use Rattle.lin_compressed_frontier.proofs.compressed.Compressed.next_within.Goals as goal

pub returns-then-branch-clause-before : goal.returns-then-branch-clause-before
returns-then-branch-clause-before g c is functions h well_formed opened frontier = (c.if-arrival-gt0.true, c.in_ok-exceeds_before.ensures.over c.if-branch.true functions h well_formed opened frontier)

pub returns-then-branch-2-clause-over : goal.returns-then-branch-2-clause-over
returns-then-branch-2-clause-over g c is functions h next frontier =
    let same : c.else-many.nodes ≡ c.args.nodes.now = elim c.else-many.branch [
      | else-many-via-then-many+then-arrival-gt0+in_ok-exceeds_before+else-branch w ↦ w.nodes-is ∙ w.exceeds_before.ensures.nodes
      | else-many-via-then-many+else-arrival-gt0 w ↦ w.nodes-is
      | else-many-via-else-many w ↦ w.nodes-is
    ] in
    c.in_ok-is_over.ensures.over c.if-branch-2.true functions h next
    (subst (IsCompressed (g.O.SeqObject.starts c.args.arrival.now.object.now) (g.O.SeqObject.step c.args.arrival.now.object.now) (g.O.SeqObject.observing c.args.arrival.now.object.now) (g.O.SeqObject.overwriting c.args.arrival.now.object.now) (with_event h c.args.arrival.now.event.now) c.args.next) (sym same) frontier)
