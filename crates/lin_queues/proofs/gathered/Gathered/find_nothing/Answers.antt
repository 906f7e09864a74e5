use Rattle.lin_order.specs.ConfigurationLaws.{with_event}
use Rattle.lin_queues.specs.Members.{view_of}
use Rattle.lin_queues.proofs.Lists.{on_ok}
use Rattle.lin_queues.proofs.AfterOk.{nothing_same, nothing_emptied}
use Rattle.lin_queues.proofs.Gaining.{gains_as}
use Rattle.lin_queues.specs.Reaching.{FindsNothing, stays, empties}
use Rattle.lin_queues.proofs.gathered.Gathered.find_nothing.Goals as goal

pub returns-then-dequeue-member-clause-told : goal.returns-then-dequeue-member-clause-told
returns-then-dequeue-member-clause-told c = on_ok c.push_same.result (λ told' functions h event whole order now returning paying told.
    told' (with_event h event) whole order c.args.elements.now returning.is_whole paying
    (nothing_same functions h event c.args.dequeue whole order c.args.time now (view_of c.args.member.now) c.debts_after_ok.ensures.nothing c.args.elements.now returning told c.if-dequeue-member.true))
    c.push_same.ensures.told

pub returns-clause-told : goal.returns-clause-told
returns-clause-told c = on_ok c.push_emptied.result (λ told' functions h event whole order now returning paying told.
    let both = nothing_emptied functions h event c.args.dequeue whole order c.args.time now (view_of c.args.member.now) c.debts_after_ok.ensures.nothing c.args.elements.now returning told c.if-dequeue-member.false in
    told' (with_event h event) whole order returning.is_whole paying returning.enqueues both.0 both.1)
    c.push_emptied.ensures.told

pub returns-then-dequeue-member-clause-gains : goal.returns-then-dequeue-member-clause-gains
returns-then-dequeue-member-clause-gains c = on_ok c.push_same.result (λ gains. gains_as _ _ _ (FindsNothing c.args.elements.now c.args.dequeue c.args.time (view_of c.args.member.now)) (λ w same. stays c.if-dequeue-member.true same) gains) c.push_same.ensures.gains

pub returns-clause-gains : goal.returns-clause-gains
returns-clause-gains c = on_ok c.push_emptied.result (λ gains. gains_as _ _ _ (FindsNothing c.args.elements.now c.args.dequeue c.args.time (view_of c.args.member.now)) (λ w sinks. empties c.if-dequeue-member.false sinks) gains) c.push_emptied.ensures.gains
