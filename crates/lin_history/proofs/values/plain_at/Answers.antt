use Rattle.std.proofs.Common.{arith}
use Rattle.std.specs.List.{slice_range}
use Rattle.lin_edn.specs.Run.{run_value}
use Rattle.lin_names.specs.Spelled.{seen}
use Rattle.lin_history.proofs.Maps.{bare_run}
use Rattle.lin_history.proofs.Saying.{said_plain}
use Rattle.lin_history.proofs.values.plain_at.Goals as goal

pub returns-then-until-at-clause-plain : goal.returns-then-until-at-clause-plain
returns-then-until-at-clause-plain c =
    let item = c.in_ok-word.ensures.item in
    (item.0, item.1, said_plain item.0 (seen c.in_ok-word.word) item.2, item.3)

pub returns-clause-plain : goal.returns-clause-plain
returns-clause-plain c =
    let word = slice_range c.args.text.now c.args.at c.run_until-until.result in
    let a = c.run_until-until.ensures.within.0 in
    let b = c.if-until-at.false in
    (run_value c.args.at word, bare_run c.args.at word, c.in_ok-plain.ensures c.args.at, c.run_until-until.ensures.run (omega arith))
