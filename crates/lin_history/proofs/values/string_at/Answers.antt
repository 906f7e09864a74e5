use Rattle.std.proofs.Common.{refl, sym, arith}
use Rattle.std.specs.List.{slice_range}
use Rattle.lin_edn.specs.Value.{text}
use Rattle.lin_history.proofs.values.string_at.Goals as goal

pub returns-clause-item : goal.returns-clause-item
returns-clause-item c =
    let a = c.text_until-until.ensures.within.0 in
    let b = c.if-until-at.false in (
      text c.args.at (slice_range c.args.text.now c.args.at c.text_until-until.result),
      refl,
      sym c.in_ok-word.ensures,
      c.text_until-until.ensures.text (omega arith),
    )
