use Rattle.std.proofs.Common.{Some, option_map, sym, ap, ◌∙◌}
use Rattle.lin_history.specs.inner.Fields.{given_view, plain_view}
use Rattle.lin_history.proofs.Saying.{cas_by, cas_is, cas_takes}
use Rattle.lin_history.proofs.table.cas_of.Goals as goal

pub returns-in-Ok-clause-call : goal.returns-in-Ok-clause-call
returns-in-Ok-clause-call c = λ m agrees.
    cas_is m (given_view c.args.value) ∙ ap (option_map (cas_by m.number)) (sym c.in-Some.ensures) ∙ ap Some (sym (c.in-Ok.ensures.call m.number agrees))

pub returns-in-Err-clause-call : goal.returns-in-Err-clause-call
returns-in-Err-clause-call c = λ m agrees. (
  cas_by m.number (plain_view c.in-Some.old, plain_view c.in-Some.new),
  cas_is m (given_view c.args.value) ∙ ap (option_map (cas_by m.number)) (sym c.in-Some.ensures),
  cas_takes m.number (plain_view c.in-Some.old) (plain_view c.in-Some.new) c.in-Err.ensures.word,
)
