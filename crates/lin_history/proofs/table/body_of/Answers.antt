use Rattle.std.proofs.lemmas.Result.{err_from_is_err_and}
use Rattle.lin_events.specs.declared.events.Body.TheVariants as body
use Rattle.lin_history.specs.Table.{call_of, reply_of, call_takes, reply_takes, body_takes}
use Rattle.lin_history.specs.inner.Fields.{given_view}
use Rattle.lin_history.proofs.Saying.{made_err}
use Rattle.lin_history.proofs.table.body_of.Goals as goal

pub returns-in_err-call_of-in-Invoke-clause-body : goal.returns-in_err-call_of-in-Invoke-clause-body
returns-in_err-call_of-in-Invoke-clause-body c = λ m agrees.
    let e = err_from_is_err_and c.from_residual.result c.from_residual.ensures.1 in
    rw (c.in-Invoke.is, e.1, e.2) (made_err body.Invoke call_takes body_takes (call_of m c.args.name (given_view c.args.value)) c.in_err-call_of-in-Invoke.field-0.0 (λ x h. h) (c.in_err-call_of-in-Invoke.ensures.call m agrees))

pub returns-in_err-reply_of-in-Ok-clause-body : goal.returns-in_err-reply_of-in-Ok-clause-body
returns-in_err-reply_of-in-Ok-clause-body c = λ m agrees.
    let e = err_from_is_err_and c.from_residual-in_err-reply_of-in-Ok.result c.from_residual-in_err-reply_of-in-Ok.ensures.1 in
    rw (c.in-Ok.is, e.1, e.2) (made_err (body.Ok c.args.name) reply_takes body_takes (reply_of m c.args.name (given_view c.args.value)) c.in_err-reply_of-in-Ok.field-0.0 (λ x h. h) (c.in_err-reply_of-in-Ok.ensures.reply m agrees))
