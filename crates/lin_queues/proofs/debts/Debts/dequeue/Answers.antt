use Rattle.std.proofs.Common.{subst, ap, ◌∙◌}
use Rattle.lin_events.specs.declared.calls.Call.TheVariants.{Dequeue}
use Rattle.lin_events.specs.declared.calls.Reply.TheVariants.{Value}
use Rattle.lin_queues.specs.Engines.{IsCompleting}
use Rattle.lin_order.specs.ConfigurationLaws.{with_event}
use Rattle.lin_queues.proofs.Going.{never}
use Rattle.lin_events.specs.declared.calls.Val.TheVariants.{Nil, Item as Held}
use Rattle.lin_queues.proofs.debts.Debts.dequeue.Goals as goal

pub returns-in-Item-clause-next : goal.returns-in-Item-clause-next
returns-in-Item-clause-next c = λ is functions h event completing.
    c.find.ensures.next is functions h event (subst (IsCompleting c.args.self.now functions h event c.args.place Dequeue) (c.in-Some.ensures.some ∙ ap Value c.in-Item.is) completing)

pub returns-in-Item-clause-fails : goal.returns-in-Item-clause-fails
returns-in-Item-clause-fails c = λ is functions h event completing.
    c.find.ensures.fails is functions h event (subst (IsCompleting c.args.self.now functions h event c.args.place Dequeue) (c.in-Some.ensures.some ∙ ap Value c.in-Item.is) completing)

pub returns-in-Nil-clause-next : goal.returns-in-Nil-clause-next
returns-in-Nil-clause-next c = λ is functions h event completing.
    c.find_nothing.ensures.next is functions h event (subst (IsCompleting c.args.self.now functions h event c.args.place Dequeue) (c.in-Some.ensures.some ∙ ap Value c.in-Nil.is) completing)

pub returns-in-Nil-clause-fails : goal.returns-in-Nil-clause-fails
returns-in-Nil-clause-fails c = λ is functions h event completing.
    c.find_nothing.ensures.fails is functions h event (subst (IsCompleting c.args.self.now functions h event c.args.place Dequeue) (c.in-Some.ensures.some ∙ ap Value c.in-Nil.is) completing)

pub returns-in-Item-clause-gives_up : goal.returns-in-Item-clause-gives_up
returns-in-Item-clause-gives_up c = λ is functions h event completing.
    c.find.ensures.gives_up is functions h event (subst (IsCompleting c.args.self.now functions h event c.args.place Dequeue) (c.in-Some.ensures.some ∙ ap Value c.in-Item.is) completing)

pub returns-in-Nil-clause-gives_up : goal.returns-in-Nil-clause-gives_up
returns-in-Nil-clause-gives_up c = λ is functions h event completing.
    c.find_nothing.ensures.gives_up is functions h event (subst (IsCompleting c.args.self.now functions h event c.args.place Dequeue) (c.in-Some.ensures.some ∙ ap Value c.in-Nil.is) completing)

pub returns-in_default-clause-fails : goal.returns-in_default-clause-fails
returns-in_default-clause-fails c = λ is functions h event completing.
    never c.no_debts.ensures (with_event h event) (λ whole order is_whole.
    c.other_ok_is_illegal.ensures.reply functions h event c.args.place completing.name c.args.reply.now whole order completing.completes completing.body is_whole (λ item e. c.in_default.ensures.none (Held item) e) (λ e. c.in_default.ensures.none Nil e))
