use Rattle.std.proofs.Common.{refl, sym, subst}
use Rattle.std.proofs.lemmas.Result.{IfOk-weaker}
use Rattle.lin_objects.specs.Kinds.{kind_of}
use Rattle.lin_answers.specs.declared.answers.Verdict.TheVariants.{Yes}
use Rattle.lin_session.specs.Marks.{IsMarkedAs}
use Rattle.lin_session.specs.inner.Judgements.{IsOrderFor}
use Rattle.lin_session.specs.inner.Objects.{marks_in}
use Rattle.lin_session.proofs.kept.Objects.order.Goals as goal

pub order_of-requires-clause-alive : goal.order_of-requires-clause-alive
order_of-requires-clause-alive c = (subst (λ s. IsMarkedAs c.args.events.now s (marks_in c.args.self.now) Yes) c.in-Object.is c.requires.alive) c.in-Object.key refl

pub merged_order-requires-clause-alive : goal.merged_order-requires-clause-alive
merged_order-requires-clause-alive c = subst (λ s. IsMarkedAs c.args.events.now s (marks_in c.args.self.now) Yes) c.in-Whole.is c.requires.alive

pub returns-in-Object : goal.returns-in-Object
returns-in-Object c =
    IfOk-weaker c.order_of.result _ _ (λ order legal. subst (λ s. IsOrderFor (kind_of c.args.kinds.now) c.args.events.now s order.items) (sym c.in-Object.is) legal) c.order_of.ensures

pub returns-in-Whole : goal.returns-in-Whole
returns-in-Whole c =
    IfOk-weaker c.merged_order.result _ _ (λ order legal. subst (λ s. IsOrderFor (kind_of c.args.kinds.now) c.args.events.now s order.items) (sym c.in-Whole.is) legal) c.merged_order.ensures
