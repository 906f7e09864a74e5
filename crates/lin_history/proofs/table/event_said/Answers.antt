use Rattle.std.proofs.Common.{◌≡◌, Bool, true, false, ◌||◌, refl, Some, Ok, Err, sym, ap, subst, ◌∙◌}
use Rattle.std.proofs.lemmas.Result.{err_from_is_err_and}
use Rattle.lin_names.specs.lemmas.Begins.{agrees_before}
use Rattle.lin_names.specs.Spelled.{numbered, seen}
use Rattle.lin_history.specs.inner.Fields.{IsMade}
use Rattle.lin_history.specs.Table.{body_takes}
use Rattle.lin_history.proofs.Saying.{item_takes}
use Rattle.lin_history.proofs.Bodies.{body_fails, body_made}
use Rattle.lin_history.proofs.table.event_said.Goals as goal

or_true : (b : Bool) → (b || true) ≡ true
or_true true = refl
or_true false = refl

pub returns-in_err-body-clause-event : goal.returns-in_err-body-clause-event
returns-in_err-body-clause-event c = λ m agrees p t f v w process type function parts same.
    let e = err_from_is_err_and c.from_residual.result c.from_residual.ensures.1 in
    let fault = c.in_err-body.field-0.0 in
    rw (e.1, e.2) (body_fails m p t f v c.args.process c.args.event_type c.args.name (seen c.args.key, w)
    (process, type, function, parts) fault (subst (λ o. IsMade body_takes o (Err fault)) (sym same) (c.in_err-body.ensures.body m agrees)))

pub returns-in-Ok-clause-event : goal.returns-in-Ok-clause-event
returns-in-Ok-clause-event c = λ m agrees p t f v w process type function parts same.
    let before = agrees_before c.body_of.new.names c.numbered.new.names m.number c.in-Ok.ensures.begun agrees in
    let body = c.in_ok-body.body in
    body_made m p t f v c.args.process c.args.event_type c.args.name (seen c.args.key, w) (process, type, function, parts) body (same ∙ c.in_ok-body.ensures.body m before)
    ∙ ap (λ k. Ok (Some (record { process = c.args.process; key = k; body = body }))) (sym (c.in-Ok.ensures.item m.number agrees))

pub returns-in-Err-clause-event : goal.returns-in-Err-clause-event
returns-in-Err-clause-event c = λ m agrees p t f v w process type function parts same.
    let before = agrees_before c.body_of.new.names c.numbered.new.names m.number c.in-Err.ensures.begun agrees in
    let body = c.in_ok-body.body in (
      record { process = c.args.process; key = numbered m.number (seen c.args.key); body = body },
      body_made m p t f v c.args.process c.args.event_type c.args.name (seen c.args.key, w) (process, type, function, parts) body (same ∙ c.in_ok-body.ensures.body m before),
      ap (λ b. body_takes body || b) (item_takes m.number (seen c.args.key) c.in-Err.ensures.word) ∙ or_true (body_takes body),
    )
