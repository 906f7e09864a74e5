use Rattle.std.proofs.Common.{subst, sym, length, inl, inr, ◌∙◌}
use Rattle.lin_order.specs.ConfigurationLaws.{with_event}
use Rattle.lin_queues.specs.Members.{view_of}
use Rattle.lin_queues.specs.Opens.{AreDequeues}
use Rattle.lin_queues.proofs.Lists.{on_ok, on_ok_both}
use Rattle.lin_queues.proofs.AfterOk.{may_be}
use Rattle.lin_queues.proofs.Gaining.{gains_as, gains_then}
use Rattle.lin_queues.specs.Reaching.{Finds, pays, takes, takes_early}
use Rattle.lin_queues.proofs.gathered.Gathered.find.Goals as goal

pub returns-clause-told : goal.returns-clause-told
returns-clause-told c = on_ok_both c.take_early.result (λ told' kept functions h event whole order now links ends open' returning paying told.
    let after = with_event h event in
    let first = paying in
    let second = subst (λ l. AreDequeues after l.items) (sym c.pay.ensures.dequeues) paying in
    let third = subst (λ l. AreDequeues after l.items) (sym c.take.ensures.dequeues) second in
    let may = may_be functions h event c.args.returned.dequeue whole order c.args.returned.time now (view_of c.args.member.now) c.debts_after_ok.ensures.dequeued c.ends_are_unique.ensures c.well_formed_is_alternating.ensures
    c.args.elements.now c.args.returned.item c.args.returned.end ends c.args.open.now open' returning told in
    elim may [
      | inl paid ↦ kept whole order (length after) c.args.elements.now (c.in_ok-take.ensures.kept whole order (length after) c.args.elements.now (c.in_ok-pay.ensures.told after whole order c.args.elements.now paid.0 returning.is_whole first paid.1))
      | inr others ↦ elim others [
        | inl taken ↦ kept whole order (length after) c.args.elements.now (c.in_ok-take.ensures.told after whole order taken.0 links taken.1 returning.is_whole second returning.enqueues taken.2)
        | inr early ↦ told' after whole order early.0 early.1 early.2 early.3 returning.is_whole third returning.enqueues early.4
      ]
    ])
    c.take_early.ensures.told c.take_early.ensures.kept

pub returns-clause-kept : goal.returns-clause-kept
returns-clause-kept c = on_ok c.take_early.result (λ kept whole order n all covered. kept whole order n all (c.in_ok-take.ensures.kept whole order n all (c.in_ok-pay.ensures.kept whole order n all covered))) c.take_early.ensures.kept

pub returns-clause-gains : goal.returns-clause-gains
returns-clause-gains c = on_ok c.take_early.result (λ gains.
    gains_then c.args.self.now c.take.new.self c.take_early.new.self (Finds c.args.elements.now c.args.open.now c.args.returned.dequeue c.args.returned.item c.args.returned.time (view_of c.args.member.now)) (c.take.ensures.dequeues ∙ c.pay.ensures.dequeues)
    (gains_then c.args.self.now c.pay.new.self c.take.new.self (Finds c.args.elements.now c.args.open.now c.args.returned.dequeue c.args.returned.item c.args.returned.time (view_of c.args.member.now)) c.pay.ensures.dequeues
    (gains_as _ _ _ (Finds c.args.elements.now c.args.open.now c.args.returned.dequeue c.args.returned.item c.args.returned.time (view_of c.args.member.now)) (λ w it. pays it) c.in_ok-pay.ensures.gains) (gains_as _ _ _ (Finds c.args.elements.now c.args.open.now c.args.returned.dequeue c.args.returned.item c.args.returned.time (view_of c.args.member.now)) (λ w it. takes it) c.in_ok-take.ensures.gains))
    (gains_as _ _ _ (Finds c.args.elements.now c.args.open.now c.args.returned.dequeue c.args.returned.item c.args.returned.time (view_of c.args.member.now)) (λ w it. takes_early it) gains)) c.take_early.ensures.gains
