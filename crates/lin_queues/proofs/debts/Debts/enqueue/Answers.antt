use Rattle.std.proofs.Common.{subst}
use Rattle.lin_events.specs.declared.calls.Call.TheVariants.{Enqueue}
use Rattle.lin_order.specs.ConfigurationLaws.{with_event}
use Rattle.lin_queues.specs.Engines.{IsCompleting}
use Rattle.lin_queues.proofs.Going.{never}
use Rattle.lin_queues.proofs.debts.Debts.enqueue.Goals as goal

pub returns-in-Done-clause-next : goal.returns-in-Done-clause-next
returns-in-Done-clause-next c = λ is functions h event completing. c.put.ensures.next is functions h event (subst (IsCompleting c.args.self.now functions h event c.args.place (Enqueue c.args.item)) c.in-Done.is completing)

pub returns-in-Done-clause-fails : goal.returns-in-Done-clause-fails
returns-in-Done-clause-fails c = λ is functions h event completing. c.put.ensures.fails is functions h event (subst (IsCompleting c.args.self.now functions h event c.args.place (Enqueue c.args.item)) c.in-Done.is completing)

pub returns-in-Done-clause-gives_up : goal.returns-in-Done-clause-gives_up
returns-in-Done-clause-gives_up c = λ is functions h event completing. c.put.ensures.gives_up is functions h event (subst (IsCompleting c.args.self.now functions h event c.args.place (Enqueue c.args.item)) c.in-Done.is completing)

pub returns-in_default-clause-fails : goal.returns-in_default-clause-fails
returns-in_default-clause-fails c = λ is functions h event completing.
    never c.no_debts.ensures (with_event h event) (λ whole order is_whole.
    c.other_ok_is_illegal.ensures.put functions h event c.args.place c.args.item completing.name c.args.reply.now whole order completing.completes completing.body is_whole c.in_default.not-Done)
