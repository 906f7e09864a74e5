use Rattle.std.proofs.Common.{[], sym, ◌∙◌, append-nil}
use Rattle.std.proofs.lemmas.Result.{err_from_is_err_and}
use Rattle.lin_formats.proofs.mark.mark_said.Goals as goal

pub returns-in_err-push-in-Ok-Some-clause-put : goal.returns-in_err-push-in-Ok-Some-clause-put
returns-in_err-push-in-Ok-Some-clause-put c = ([], c.in_err-push-in-Ok-Some.ensures.items ∙ sym (append-nil c.args.places.now.items))

pub returns-in_err-push-in-Ok-Some-clause-marked : goal.returns-in_err-push-in-Ok-Some-clause-marked
returns-in_err-push-in-Ok-Some-clause-marked c = rw (err_from_is_err_and c.from_residual.result c.from_residual.ensures.1).1 (λ k v is. tt)
