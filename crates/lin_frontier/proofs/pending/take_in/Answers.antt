use Rattle.std.proofs.Common.{not, nat_eq, length, sym, ap, subst, refl, arith}
use Rattle.std.proofs.lemmas.List.Filters.{length-filter_both}
use Rattle.lin_events.specs.WellFormed.{Completes}
use Rattle.lin_order.specs.ConfigurationLaws.{with_event}
use Rattle.lin_frontier.specs.declared.pending.Open.{Open}
use Rattle.lin_frontier.specs.Frontiers.{IsPending}
use Rattle.lin_frontier.proofs.PendingAfter.{pending_invoked, pending_answered, pending_crashed}
use Rattle.lin_frontier.proofs.pending.take_in.Goals as goal

pub returns-in-Ok-push-clause-ok : goal.returns-in-Ok-push-clause-ok
returns-in-Ok-push-clause-ok c functions h next =
    subst (IsPending (with_event h c.args.event.now)) (sym c.in-Ok-push.ensures.items)
    (pending_invoked functions h c.args.pending.now.items c.args.at c.args.event.now next c.well_formed_is_alternating.ensures c.beginnings_are_well_formed.ensures c.in-Invoke.call c.in-Invoke.is)

pub returns-in-Info-clause-ok : goal.returns-in-Info-clause-ok
returns-in-Info-clause-ok c functions h next =
    subst (IsPending (with_event h c.args.event.now)) (sym c.mark_crashed.ensures)
    (pending_crashed functions h c.args.pending.now.items c.args.at c.args.event.now next c.well_formed_is_alternating.ensures c.beginnings_are_well_formed.ensures c.in-Info.field-0
    (subst (λ b. Completes b c.in-Info.field-0) (sym c.in-Info.is) refl) c.in-Info.is)

pub returns-in-Ok-clause-ok : goal.returns-in-Ok-clause-ok
returns-in-Ok-clause-ok c functions h next =
    subst (IsPending (with_event h c.args.event.now)) (sym c.close.ensures)
    (pending_answered functions h c.args.pending.now.items c.args.at c.args.event.now next c.well_formed_is_alternating.ensures c.beginnings_are_well_formed.ensures c.in-Ok.is)

pub returns-in-Ok-clause-len : goal.returns-in-Ok-clause-len
returns-in-Ok-clause-len c =
    let kept = ap length c.close.ensures in
    let both = length-filter_both (λ (o : Open). not (nat_eq o.process c.args.event.now.process)) (λ (o : Open). not (not (nat_eq o.process c.args.event.now.process))) (λ o. refl) c.args.pending.now.items in
    omega (arith, kept, both)
