use Rattle.std.proofs.Common.{refl, arith}
use Rattle.lin_queues.proofs.debts.Debts.take_in.Goals as goal

pub returns-in-Invoke-clause-next : goal.returns-in-Invoke-clause-next
returns-in-Invoke-clause-next c = λ is functions h well_formed debts. c.invoke.ensures.next is c.args.event.now c.in-Invoke.is refl functions h well_formed debts

pub returns-in-Ok-clause-next : goal.returns-in-Ok-clause-next
returns-in-Ok-clause-next c = λ is functions h well_formed debts. c.complete.ensures.next is c.args.event.now c.in-Ok.field-0 c.in-Ok.is refl functions h well_formed debts

pub returns-in-Ok-clause-fails : goal.returns-in-Ok-clause-fails
returns-in-Ok-clause-fails c = λ is functions h well_formed debts. c.complete.ensures.fails is c.args.event.now c.in-Ok.field-0 c.in-Ok.is refl functions h well_formed debts

pub returns-in-Fail-clause-next : goal.returns-in-Fail-clause-next
returns-in-Fail-clause-next c = λ is functions h well_formed debts. c.fail.ensures.next is c.args.event.now c.in-Fail.field-0 c.in-Fail.is refl functions h well_formed debts

pub returns-in-Fail-clause-fails : goal.returns-in-Fail-clause-fails
returns-in-Fail-clause-fails c = λ is functions h well_formed debts. c.fail.ensures.fails is c.args.event.now c.in-Fail.field-0 c.in-Fail.is refl functions h well_formed debts

pub returns-in-Info-clause-next : goal.returns-in-Info-clause-next
returns-in-Info-clause-next c = λ is functions h well_formed debts. c.inform.ensures.next c.args.event.now c.in-Info.field-0 c.in-Info.is functions h well_formed debts

pub returns-in-Ok-clause-gives_up : goal.returns-in-Ok-clause-gives_up
returns-in-Ok-clause-gives_up c = λ is functions h well_formed debts. c.complete.ensures.gives_up is c.args.event.now c.in-Ok.field-0 c.in-Ok.is refl functions h well_formed debts

pub returns-in-Fail-clause-gives_up : goal.returns-in-Fail-clause-gives_up
returns-in-Fail-clause-gives_up c = λ is functions h well_formed debts. c.fail.ensures.gives_up is c.args.event.now c.in-Fail.field-0 c.in-Fail.is refl functions h well_formed debts

pub returns-then-self-clause-gives_up : goal.returns-then-self-clause-gives_up
returns-then-self-clause-gives_up c = λ is functions h well_formed debts less. absurd (let e = debts.reached in let full = c.if-self.true in omega arith)
