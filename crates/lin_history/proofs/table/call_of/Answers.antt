use Rattle.std.proofs.lemmas.Result.{err_from_is_err_and}
use Rattle.lin_events.specs.declared.calls.Call.TheVariants as call
use Rattle.lin_history.specs.Table.{item_of, val_of, is_named, val_takes, call_takes}
use Rattle.lin_history.specs.inner.Fields.{given_view}
use Rattle.lin_history.proofs.Saying.{made_err}
use Rattle.lin_history.proofs.table.call_of.Goals as goal

pub returns-in_err-val-in-Write-clause-call : goal.returns-in_err-val-in-Write-clause-call
returns-in_err-val-in-Write-clause-call c = λ m agrees.
    let e = err_from_is_err_and c.from_residual.result c.from_residual.ensures.1 in
    rw (c.in-Write.is, e.1, e.2) (made_err call.Write val_takes call_takes (val_of m (given_view c.args.value)) c.in_err-val-in-Write.field-0.0 (λ x h. h) (c.in_err-val-in-Write.ensures.val m agrees))

pub returns-in_err-put_in-in-Enqueue-clause-call : goal.returns-in_err-put_in-in-Enqueue-clause-call
returns-in_err-put_in-in-Enqueue-clause-call c = λ m agrees.
    let e = err_from_is_err_and c.from_residual-in_err-put_in-in-Enqueue.result c.from_residual-in_err-put_in-in-Enqueue.ensures.1 in
    rw (c.in-Enqueue.is, e.1, e.2) (made_err call.Enqueue is_named call_takes (item_of m (given_view c.args.value)) c.in_err-put_in-in-Enqueue.field-0.0 (λ x h. h) (c.in_err-put_in-in-Enqueue.ensures.item m agrees))

pub returns-in_err-put_in-in-Add-clause-call : goal.returns-in_err-put_in-in-Add-clause-call
returns-in_err-put_in-in-Add-clause-call c = λ m agrees.
    let e = err_from_is_err_and c.from_residual-in_err-put_in-in-Add.result c.from_residual-in_err-put_in-in-Add.ensures.1 in
    rw (c.in-Add.is, e.1, e.2) (made_err call.Add is_named call_takes (item_of m (given_view c.args.value)) c.in_err-put_in-in-Add.field-0.0 (λ x h. h) (c.in_err-put_in-in-Add.ensures.item m agrees))
