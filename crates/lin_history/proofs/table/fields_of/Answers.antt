use Rattle.std.proofs.Common.{codes}
use Rattle.std.proofs.lemmas.Result.{err_from_is_err_and}
use Rattle.lin_history.specs.inner.Fields.{found}
use Rattle.lin_history.proofs.Keys.{several_in_all, one_of_four}
use Rattle.lin_history.proofs.table.fields_of.Goals as goal

pub returns-in_err-keep : goal.returns-in_err-keep
returns-in_err-keep c =
    let p = err_from_is_err_and c.from_residual.result c.from_residual.ensures.1 in
    rw (p.1, p.2) (
      c.in_err-keep.ensures.0,
      one_of_four _ _ _ _ _ _ _ _
          (several_in_all (codes ":process") c.args.entries.now c.loop-entry.entry-index c.entry-item.result _ (found c.loop-entry.fields.process) c.loop-entry-test.true c.entry-item.is c.loop-entry.invariant.process)
          (several_in_all (codes ":type") c.args.entries.now c.loop-entry.entry-index c.entry-item.result _ (found c.loop-entry.fields.event_type) c.loop-entry-test.true c.entry-item.is c.loop-entry.invariant.types)
          (several_in_all (codes ":f") c.args.entries.now c.loop-entry.entry-index c.entry-item.result _ (found c.loop-entry.fields.function) c.loop-entry-test.true c.entry-item.is c.loop-entry.invariant.function)
          (several_in_all (codes ":value") c.args.entries.now c.loop-entry.entry-index c.entry-item.result _ (found c.loop-entry.fields.value) c.loop-entry-test.true c.entry-item.is c.loop-entry.invariant.values)
          c.in_err-keep.ensures.1,
    )
