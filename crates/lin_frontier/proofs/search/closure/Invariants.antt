use Rattle.std.proofs.Common.{◌≤◌, ◌+◌, ◌-◌, ◌*◌}
use Rattle.indexmap.specs.IndexMap.{index_map_len, IsUnique}
use Rattle.lin_frontier.specs.Walks.{IsTriedAtMost}
use Rattle.lin_frontier.specs.lemmas.Closing.{IsClosing}
use Rattle.lin_frontier.proofs.search.closure.Given as goal

abbrev pub invariant-loop-state : goal.invariant-loop-state
invariant-loop-state g l = record {
  within : l.at ≤ index_map_len l.found;
  small : index_map_len l.found ≤ l.budget;
  unique : IsUnique g.O.State.PartialEq.eq l.found;
  closing : IsClosing (g.O.Steps.step l.object) l.fn.starts.entries l.fn.nodes l.nodes l.at l.found.entries;
  tried : IsTriedAtMost (l.at * g.O.Steps.most l.object) l.fn.meter l.meter;
}

abbrev pub decreases-loop-state : goal.decreases-loop-state
decreases-loop-state g l = l.budget + 1 - l.at
