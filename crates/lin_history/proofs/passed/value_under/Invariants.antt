use Rattle.std.proofs.Common.{◌≡◌, drop, map}
use Rattle.lin_edn.specs.Value.{entries_of}
use Rattle.lin_edn.specs.View.{entry_view}
use Rattle.lin_history.specs.Table.{under}
use Rattle.lin_history.proofs.passed.value_under.Given as goal

abbrev pub invariant-loop-entry : goal.invariant-loop-entry
invariant-loop-entry l =
    under l.word (entries_of (map entry_view l.entries)) ≡ under l.word (entries_of (map entry_view (drop l.entry-index l.entries)))
