use Rattle.std.proofs.Common.{sym, subst}
use Rattle.lin_order.specs.lemmas.Completing.{ok_completes}
use Rattle.lin_order.specs.lemmas.Lists.{if_ok_weaker}
use Rattle.lin_sets.specs.Steps.{EndsNext}
use Rattle.lin_sets.proofs.Whole.{ends_opened, opened_there, no_answer}
use Rattle.lin_sets.proofs.Refusing.{no_invocation, odd}
use Rattle.lin_sets.proofs.intervals.Intervals.end_ok.Goals as goal

pub returns-in_default-clause-goes_on : goal.returns-in_default-clause-goes_on
returns-in_default-clause-goes_on c = λ _ h event name may process is all.
    absurd (opened_there c.args.self.now h event may all c.args.process name process (ok_completes event.body name c.args.reply.now is) c.get.result c.get.ensures c.in_default.not-Some)

pub returns-in-Add-clause-goes_on : goal.returns-in-Add-clause-goes_on
returns-in-Add-clause-goes_on c = if_ok_weaker c.end_add.result _ _ (λ goes given so h event name may process is all.
    let ends = ends_opened c.args.self.now h event may all c.args.process name process (ok_completes event.body name c.args.reply.now is) c.in-Some.opened (sym c.in-Some.ensures) in
    given so h event c.in-Some.opened.at may (subst (EndsNext h event c.in-Some.opened.at) c.in-Add.is ends, (name, is)) all) c.end_add.ensures.goes_on

pub returns-in-Add-clause-conflict : goal.returns-in-Add-clause-conflict
returns-in-Add-clause-conflict c = if_ok_weaker c.end_add.result _ _ (λ goes given so h event name may process is all.
    let ends = ends_opened c.args.self.now h event may all c.args.process name process (ok_completes event.body name c.args.reply.now is) c.in-Some.opened (sym c.in-Some.ensures) in
    given so h event c.in-Some.opened.at (subst (EndsNext h event c.in-Some.opened.at) c.in-Add.is ends, (name, is)) all) c.end_add.ensures.conflict

pub returns-in-Read-clause-goes_on : goal.returns-in-Read-clause-goes_on
returns-in-Read-clause-goes_on c = if_ok_weaker c.end_read.result _ _ (λ goes given so h event name may process is all.
    let ends = ends_opened c.args.self.now h event may all c.args.process name process (ok_completes event.body name c.args.reply.now is) c.in-Some.opened (sym c.in-Some.ensures) in
    given so h event may (subst (EndsNext h event c.in-Some.opened.at) c.in-Read.is ends, (name, is)) all) c.end_read.ensures.goes_on

pub returns-in-Read-clause-conflict : goal.returns-in-Read-clause-conflict
returns-in-Read-clause-conflict c = if_ok_weaker c.end_read.result _ _ (λ goes given so h event name may process is all.
    let ends = ends_opened c.args.self.now h event may all c.args.process name process (ok_completes event.body name c.args.reply.now is) c.in-Some.opened (sym c.in-Some.ensures) in
    given so h event (subst (EndsNext h event c.in-Some.opened.at) c.in-Read.is ends, (name, is)) all) c.end_read.ensures.conflict

pub returns-in_default-call-clause-conflict : goal.returns-in_default-call-clause-conflict
returns-in_default-call-clause-conflict c = λ _ h event name may process is all.
    let ends = ends_opened c.args.self.now h event may all c.args.process name process (ok_completes event.body name c.args.reply.now is) c.in-Some.opened (sym c.in-Some.ensures) in
    let call = c.in-Some.opened.call in
    odd c.args.self.now h event all (no_invocation is) c.in-Some.opened.at call c.args.reply.now (ends, (name, is)) (no_answer call c.args.reply.now c.in_default-call.not-Add c.in_default-call.not-Read)
