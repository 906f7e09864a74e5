use Rattle.std.proofs.Common.{◌++◌, ◌∙◌, ap, false, map, sym, subst}
use Rattle.lin_order.specs.ConfigurationLaws.{with_event}
use Rattle.lin_members.specs.Asking.{alone_of}
use Rattle.lin_frontier.specs.Frontiers.{IsPending}
use Rattle.lin_members.specs.Searching.{IsPruned}
use Rattle.lin_compressed_frontier.proofs.Advancing.{made_map, none_early}
use Rattle.lin_compressed_frontier.proofs.Alone.{reset, with_overwritten}
use Rattle.lin_compressed_frontier.proofs.Compressing.{pruned_compressed}
use Rattle.lin_compressed_frontier.proofs.FromListing.{listing_taken}
use Rattle.lin_compressed_frontier.proofs.within.after_listing.Goals as goal

pub returns : goal.returns
returns g c functions h next listing =
    let begin = g.O.SeqObject.starts c.args.arrival.now.object.now in
    let step = g.O.SeqObject.step c.args.arrival.now.object.now in
    let observes = g.O.SeqObject.observing c.args.arrival.now.object.now in
    let after = with_event h c.args.arrival.now.event.now in
    let opened = c.in_ok-operations.ensures.pending functions h next in
    let made = c.in_ok-push_all_taken_out.ensures in
    let covering = listing_taken begin step observes functions h c.args.arrival.now.event.now next.well_formed c.of-after.result (subst (IsPending after) (sym (c.of-after.ensures ∙ c.deref.ensures.value)) opened)
    c.well_formed_is_alternating.ensures c.ends_are_unique.ensures _ c.in-Ok.reply c.in-Ok.is c.members_cover_configurations.ensures.listed c.members_cover_configurations.ensures.ok
    c.rounds_after_events.ensures.ok c.args.nodes.now c.args.list.now made.0 made.1 listing in
    let found_is = made.2 ∙ ap (λ l. l ++ made.0) c.new-found.ensures.items in
    let kept = subst (λ l. IsPruned observes c.of-after.result l c.in_ok-kept.kept.items) (c.alone_all.ensures ∙ ap (map alone_of) found_is) c.in_ok-kept.ensures in
    with_overwritten begin step observes (g.O.SeqObject.overwriting c.args.arrival.now.object.now) after c.in_ok-kept.kept.items c.args.nodes.now c.overwritten_can_go.ensures.alone (λ m there. none_early made.0 m (kept.from m there))
    (pruned_compressed begin step observes c.well_formed_is_alternating.ensures c.ends_are_unique.ensures c.dominated_can_go.ensures.dropped c.overwritten_can_go.ensures.above functions after next.well_formed c.of-after.result
    (subst (IsPending after) (sym (c.of-after.ensures ∙ c.deref.ensures.value)) opened) false c.args.nodes.now (map alone_of made.0) c.in_ok-kept.kept.items kept
    (reset begin step observes after made.0 c.args.nodes.now (map alone_of made.0) (made_map alone_of made.0) covering))
