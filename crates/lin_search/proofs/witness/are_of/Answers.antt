use Rattle.std.proofs.Common.{◌≡◌, All, sym, subst, ◌∙◌}
use Rattle.std.proofs.lemmas.Bool.{not-false}
use Rattle.std.proofs.lemmas.List.{take_all}
use Rattle.std.proofs.lemmas.List.Elements.{All-push}
use Rattle.lin_events.specs.declared.events.Event.{Event}
use Rattle.lin_events.specs.Sameness.{item_same}
use Rattle.lin_order.specs.lemmas.Lists.{take_more}
use Rattle.lin_search.proofs.witness.are_of.Goals as goal

pub loop-event-preserved : goal.loop-event-preserved
loop-event-preserved c =
    let P = λ (event : Event). event.key ≡ c.args.key in
    let event = c.event-item.result in
    subst (All P) (sym (take_more c.args.events.now c.loop-event.event-index event c.loop-event-test.true c.event-item.is))
    (All-push P _ event c.loop-event.invariant (item_same event.key c.args.key (not-false _ (sym c.ne.ensures ∙ c.if-ne.false))))

pub returns : goal.returns
returns c true_now = subst (All (λ (event : Event). event.key ≡ c.args.key)) (take_all c.loop-event.event-index c.args.events.now c.loop-event-test.false) c.loop-event.invariant
