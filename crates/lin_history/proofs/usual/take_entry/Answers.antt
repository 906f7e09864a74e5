use Rattle.std.proofs.Common.{arith}
use Rattle.std.specs.List.{slice_range}
use Rattle.lin_edn.specs.Run.{run_value}
use Rattle.lin_history.proofs.Maps.{entry_more}
use Rattle.lin_history.proofs.usual.take_entry.Goals as goal

pub returns-clause-taken : goal.returns-clause-taken
returns-clause-taken c = λ far start upto.
    let s = c.args.text.now in
    let from = c.args.from in
    let until = c.run_until-until.result in
    let at = c.white_until-at.result in
    let used = c.usual_value-used.result.1 in
    let a = c.run_until-until.ensures.within.0 in
    let b = c.if-until-from.false in
    let d = c.usual_value-used.ensures.within.0 in
    let e = c.if-used-at.false in
    let value = c.usual_value-used.ensures.value (omega arith) in
    entry_more s start from until at used c.args.levels c.usual_value-used.result.0 (run_value from (slice_range s from until)) value.0 c.args.places.now c.keep.new.places
    c.usual_value-used.ensures.at upto (c.run_until-until.ensures.run (omega arith)) c.white_until-at.ensures.row value.1 (c.keep.ensures c.if-not-keep.false (slice_range s from until) c.field_named.ensures from)
