use Rattle.std.proofs.Common.{◌≤◌, ◌-◌, take}
use Rattle.indexmap.specs.IndexMap.{index_map_len}
use Rattle.lin_frontier.specs.Placing.{IsKeeping}
use Rattle.lin_frontier.proofs.keeping.keep_all.Given as goal

abbrev pub invariant-loop-config : goal.invariant-loop-config
invariant-loop-config g l = record {
  within : l.at ≤ index_map_len l.configs;
  keeping : IsKeeping l.event.process l.event.body (take l.at l.configs.entries) l.kept.entries;
}

abbrev pub decreases-loop-config : goal.decreases-loop-config
decreases-loop-config g l = index_map_len l.configs - l.at
