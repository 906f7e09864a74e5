use Rattle.std.proofs.Common.{sym, subst, ◌∙◌}
use Rattle.lin_events.specs.Replies.{reply_Decides}
use Rattle.lin_objects.specs.inner.OnlySteps.{IsOnlyStep}
use Rattle.lin_objects.specs.Steps.{Step}
use Rattle.lin_objects.proofs.any.only_next.Goals as goal

pub returns-then-eq-clause-some : goal.returns-then-eq-clause-some
returns-then-eq-clause-some c =
    let only = subst (IsOnlyStep c.args.kind c.args.state.now c.args.call.now) c.in-Some.is c.in_ok-next.ensures in
    subst (Step c.args.kind c.args.state.now c.args.call.now c.in-Some.next) ((reply_Decides c.in-Some.given c.args.reply.now).0 (sym c.eq.ensures ∙ c.if-eq.true)) only.0

pub returns-else-eq-clause-none : goal.returns-else-eq-clause-none
returns-else-eq-clause-none c = λ next steps.
    let only = subst (IsOnlyStep c.args.kind c.args.state.now c.args.call.now) c.in-Some.is c.in_ok-next.ensures in
    let yes = c.eq.ensures ∙ (reply_Decides c.in-Some.given c.args.reply.now).1 (sym (only.1 next c.args.reply.now steps).1) in
    let no = c.if-eq.false in
    cc
