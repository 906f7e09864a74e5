use Rattle.std.proofs.Common.{◌≡◌, true, get_or, ◌<◌, ◌+◌, ◌-◌, ◌*◌, ◌≤◌}
use Rattle.lin_edn.specs.Scans.{is_dark}
use Rattle.lin_edn.specs.Skimming.{level_view}
use Rattle.lin_edn.proofs.Nesting.{IsFilled}
use Rattle.lin_edn.proofs.nested.+nested.Given as goal

abbrev pub invariant-collection_until-loop-at : goal.invariant-collection_until-loop-at
invariant-collection_until-loop-at l = (l.inner ≤ l.at) × (l.at ≤ l.end)
    × IsFilled l.input l.from l.inner l.end (l.levels - 1) (level_view l.level) l.at × (l.at < l.end → is_dark (get_or l.input l.at 0) ≡ true)

abbrev pub decreases-collection_until-loop-at : goal.decreases-collection_until-loop-at
decreases-collection_until-loop-at l = l.end - l.at

abbrev pub decreases-collection_until : goal.decreases-collection_until
decreases-collection_until l = 2 * l.levels

abbrev pub decreases-nested_until : goal.decreases-nested_until
decreases-nested_until l = 2 * l.levels + 1
