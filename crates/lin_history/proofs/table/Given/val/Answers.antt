use Rattle.std.proofs.Common.{Some, option_map, sym, ap, ◌∙◌}
use Rattle.lin_history.specs.inner.Fields.{given_view, plain_view, val_in}
use Rattle.lin_history.proofs.Saying.{plain_takes, val_is}
use Rattle.lin_history.proofs.table.Given.val.Goals as goal

pub returns-in-Ok-clause-val : goal.returns-in-Ok-clause-val
returns-in-Ok-clause-val c = λ m agrees.
    val_is m (given_view c.args.self) ∙ ap (option_map (val_in m.number)) (sym c.in-Some.ensures) ∙ ap Some (sym (c.in-Ok.ensures.val m.number agrees))

pub returns-in-Err-clause-val : goal.returns-in-Err-clause-val
returns-in-Err-clause-val c = λ m agrees.
    let plain = plain_view c.in-Some.plain in (
      val_in m.number plain,
      val_is m (given_view c.args.self) ∙ ap (option_map (val_in m.number)) (sym c.in-Some.ensures),
      plain_takes m.number plain c.in-Err.ensures.word,
    )
