use Rattle.std.proofs.Common.{◌≡◌, map, drop, ◌++◌, codes}
use Rattle.lin_edn.specs.Value.{entries_of}
use Rattle.lin_edn.specs.View.{entry_view}
use Rattle.lin_history.specs.Table.{under}
use Rattle.lin_history.specs.inner.Fields.{found}
use Rattle.lin_history.proofs.table.fields_of.Given as goal

abbrev pub invariant-loop-entry : goal.invariant-loop-entry
invariant-loop-entry l =
    let all = entries_of (map entry_view l.entries) in
    let rest = entries_of (map entry_view (drop l.entry-index l.entries)) in
    record {
      process : under (codes ":process") all ≡ found l.fields.process ++ under (codes ":process") rest;
      types : under (codes ":type") all ≡ found l.fields.event_type ++ under (codes ":type") rest;
      function : under (codes ":f") all ≡ found l.fields.function ++ under (codes ":f") rest;
      values : under (codes ":value") all ≡ found l.fields.value ++ under (codes ":value") rest;
    }
