use Rattle.std.proofs.Common.{subst, ap, ◌∙◌, length, Ok, sym}
use Rattle.lin_queues.specs.Members.{HasMore}
use Rattle.lin_queues.proofs.Paying.{no_more}
use Rattle.lin_queues.proofs.Gaining.{gains_as, gains_none}
use Rattle.lin_queues.specs.Members.{view_of}
use Rattle.lin_queues.specs.Reaching.{Sinks}
use Rattle.lin_queues.proofs.gathered.Gathered.push_sunk.Goals as goal

pub returns-in_ok-push-clause-told : goal.returns-in_ok-push-clause-told
returns-in_ok-push-clause-told c = λ h whole order is_whole paying enqueues told owed.
    c.in_ok-push.ensures.told h whole order c.args.elements.now is_whole paying (c.in_ok-sink.ensures.sunk (ap Ok c.if-branch.true) whole order (length h) enqueues told owed)

pub returns-else-branch-clause-told : goal.returns-else-branch-clause-told
returns-else-branch-clause-told c = λ h whole order is_whole paying enqueues told owed.
    absurd (no_more c.debts_are_payable.ensures.payment h whole order is_whole c.args.self.now.dequeues.items paying
    (subst (HasMore whole order (length h)) (c.len-most.ensures ∙ c.args.self.now.dequeues.ok.0) (c.in_ok-sink.ensures.stuck (ap Ok c.if-branch.false) whole order (length h) enqueues told owed)))

pub returns-in_ok-push-clause-gains : goal.returns-in_ok-push-clause-gains
returns-in_ok-push-clause-gains c = gains_as _ _ _ (Sinks c.args.elements.now c.args.by c.args.time (view_of c.args.member))
    (λ w same. subst (Sinks c.args.elements.now c.args.by c.args.time (view_of c.args.member)) (sym same) (c.in_ok-sink.ensures.sinks (ap Ok c.if-branch.true))) c.in_ok-push.ensures.gains

pub returns-else-branch-clause-gains : goal.returns-else-branch-clause-gains
returns-else-branch-clause-gains c = gains_none _ _
