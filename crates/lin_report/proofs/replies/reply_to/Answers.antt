use Rattle.std.proofs.Common.{refl, subst, sym}
use Rattle.std.proofs.lemmas.Result.{IfOk-weaker}
use Rattle.lin_report.specs.Runs.{IsCommandReply}
use Rattle.lin_report.specs.declared.commands.Command.TheVariants.{Ask, Explain, Order, Refute, Report}
use Rattle.lin_report.proofs.OfWork.{told_of_work}
use Rattle.lin_report.proofs.replies.reply_to.Goals as goal

pub returns-in-Refute-clause-reply : goal.returns-in-Refute-clause-reply
returns-in-Refute-clause-reply c =
    let before = c.args.session.now.present in
    let after = c.refute.new.session.present in
    IfOk-weaker c.refute.result _ _
    (λ reply told. subst (λ command. IsCommandReply c.args.names.now c.args.keyed command before after reply.text.items reply.status) (sym c.in-Refute.is) (told c.args.names.now c.args.keyed)) c.refute.ensures

pub returns-in-Refute-clause-work : goal.returns-in-Refute-clause-work
returns-in-Refute-clause-work c = told_of_work (Refute c.in-Refute.key) (λ e. cc) c.args.command c.in-Refute.is c.refute.result _

pub returns-in-Ask-clause-reply : goal.returns-in-Ask-clause-reply
returns-in-Ask-clause-reply c =
    let before = c.args.session.now.present in
    let after = c.ask.new.session.present in
    IfOk-weaker c.ask.result _ _
    (λ reply told. subst (λ command. IsCommandReply c.args.names.now c.args.keyed command before after reply.text.items reply.status) (sym c.in-Ask.is) (told c.args.names.now c.args.keyed)) c.ask.ensures

pub returns-in-Ask-clause-work : goal.returns-in-Ask-clause-work
returns-in-Ask-clause-work c = told_of_work (Ask c.in-Ask.scope) (λ e. cc) c.args.command c.in-Ask.is c.ask.result _

pub returns-in-Order-clause-reply : goal.returns-in-Order-clause-reply
returns-in-Order-clause-reply c =
    let before = c.args.session.now.present in
    let after = c.order.new.session.present in
    IfOk-weaker c.order.result _ _
    (λ reply told. subst (λ command. IsCommandReply c.args.names.now c.args.keyed command before after reply.text.items reply.status) (sym c.in-Order.is) (told c.args.keyed)) c.order.ensures

pub returns-in-Order-clause-work : goal.returns-in-Order-clause-work
returns-in-Order-clause-work c = told_of_work (Order c.in-Order.scope) (λ e. cc) c.args.command c.in-Order.is c.order.result _

pub returns-in-Report-clause-reply : goal.returns-in-Report-clause-reply
returns-in-Report-clause-reply c =
    let before = c.args.session.now.present in
    let after = c.report.new.session.present in
    IfOk-weaker c.report.result _ _
    (λ reply told. subst (λ command. IsCommandReply c.args.names.now c.args.keyed command before after reply.text.items reply.status) (sym c.in-Report.is) (told c.args.keyed)) c.report.ensures

pub returns-in-Report-clause-work : goal.returns-in-Report-clause-work
returns-in-Report-clause-work c = told_of_work Report (λ e. cc) c.args.command c.in-Report.is c.report.result _

pub returns-in-Explain-clause-work : goal.returns-in-Explain-clause-work
returns-in-Explain-clause-work c = told_of_work (Explain c.in-Explain.scope) (λ e. cc) c.args.command c.in-Explain.is c.explain_reply.result _

pub returns-in-Work-clause-reply : goal.returns-in-Work-clause-reply
returns-in-Work-clause-reply c =
    let now = c.args.session.now in
    IfOk-weaker c.work.result _ _
    (λ reply told. subst (λ command. IsCommandReply c.args.names.now c.args.keyed command now.present now.present reply.text.items reply.status) (sym c.in-Work.is) (refl, (now.meter, told.0), told.1)) c.work.ensures

pub returns-in-Work-clause-work : goal.returns-in-Work-clause-work
returns-in-Work-clause-work c = IfOk-weaker c.work.result _ _ (λ reply told is. told.0) c.work.ensures
