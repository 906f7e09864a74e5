use Rattle.std.proofs.Common.{◌<◌, ◌≤◌}
use Rattle.lin_history.specs.inner.Usual.{IsUpTo}
use Rattle.lin_history.proofs.outlines.Outline.map_at.Given as goal

abbrev pub invariant-loop-key : goal.invariant-loop-key
invariant-loop-key l = (l.from < l.at) × (l.at ≤ l.end) × IsUpTo l.text l.from l.levels l.at l.places
