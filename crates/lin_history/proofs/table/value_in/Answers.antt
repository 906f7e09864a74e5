use Rattle.std.proofs.lemmas.Result.{err_from_is_err_and}
use Rattle.lin_events.specs.declared.calls.Reply.TheVariants.{Value as Saw}
use Rattle.lin_history.specs.Table.{val_of, val_takes, reply_takes}
use Rattle.lin_history.specs.inner.Fields.{given_view}
use Rattle.lin_history.proofs.Saying.{made_err}
use Rattle.lin_history.proofs.table.value_in.Goals as goal

pub returns-in_err-val-clause-reply : goal.returns-in_err-val-clause-reply
returns-in_err-val-clause-reply c = λ m agrees.
    let e = err_from_is_err_and c.from_residual.result c.from_residual.ensures.1 in
    rw (e.1, e.2) (made_err Saw val_takes reply_takes (val_of m (given_view c.args.value)) c.in_err-val.field-0.0 (λ x h. h) (c.in_err-val.ensures.val m agrees))
