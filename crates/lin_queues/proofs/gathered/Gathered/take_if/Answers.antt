use Rattle.std.proofs.Common.{get_or, pos, sym, subst, ◌∙◌, Contains}
use Rattle.lin_queues.proofs.Lists.{on_ok}
use Rattle.lin_queues.proofs.Gaining.{gains_as}
use Rattle.lin_queues.specs.Members.{view_of}
use Rattle.lin_queues.specs.Reaching.{Takes}
use Rattle.std.proofs.lemmas.Bool.{false≢true, not-false}
use Rattle.std.proofs.lemmas.Option.{slice_get-get_or}
use Rattle.lin_events.specs.Sameness.{item_same}
use Rattle.lin_events.specs.declared.items.Item.TheVariants.{Int}
use Rattle.lin_queues.proofs.gathered.Gathered.take_if.Goals as goal

pub returns-clause-told : goal.returns-clause-told
returns-clause-told c = on_ok c.take_one.result (λ told' h whole order is_whole paying enqueues may. told' h whole order c.args.returned.item is_whole paying enqueues may) c.take_one.ensures.told

pub returns-clause-gains : goal.returns-clause-gains
returns-clause-gains c = on_ok c.take_one.result (λ gains from_low.
    let stands = slice_get-get_or c.args.elements.now c.args.at (record { place = 0; returned = 0; item = Int (pos 0); earlier = 0 }) c.requires in
    gains_as _ _ _ (Takes c.args.elements.now c.args.returned.item c.args.returned.time (view_of c.args.member.now)) (λ w sinks. record {
      at = c.args.at;
      element = get_or c.args.elements.now c.args.at (record { place = 0; returned = 0; item = Int (pos 0); earlier = 0 });
      stands = stands;
      item_is = item_same _ _ (not-false _ (sym c.if-ne.ensures));
      from_low = from_low;
      kept = (λ there. false≢true (sym c.if-is_in.false ∙ c.is_in.ensures.1 (subst (λ l. Contains l c.args.at) (sym c.as_slice.ensures.value) there)));
      becomes = sinks;
    }) (gains (get_or c.args.elements.now c.args.at (record { place = 0; returned = 0; item = Int (pos 0); earlier = 0 })) stands)) c.take_one.ensures.gains
