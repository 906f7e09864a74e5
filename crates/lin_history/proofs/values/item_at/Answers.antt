use Rattle.std.proofs.Common.{arith}
use Rattle.std.specs.List.{slice_range}
use Rattle.lin_edn.specs.Run.{run_value}
use Rattle.lin_history.proofs.Maps.{bare_run}
use Rattle.lin_history.proofs.values.item_at.Goals as goal

pub returns-clause-item : goal.returns-clause-item
returns-clause-item c =
    let word = slice_range c.args.text.now c.args.at c.run_until-until.result in
    let a = c.run_until-until.ensures.within.0 in
    let b = c.if-until-at.false in
    (run_value c.args.at word, bare_run c.args.at word, c.in_ok-item.ensures c.args.at, c.run_until-until.ensures.run (omega arith))
