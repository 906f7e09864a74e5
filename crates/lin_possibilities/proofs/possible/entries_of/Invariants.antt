use Rattle.std.proofs.Common.{◌≡◌, ◌++◌}
use Rattle.lin_possibilities.proofs.possible.entries_of.Given as goal

abbrev pub invariant-loop-entry : goal.invariant-loop-entry
invariant-loop-entry g l = l.entries.items ++ l.entry-iterator ≡ l.fn.found.entries
