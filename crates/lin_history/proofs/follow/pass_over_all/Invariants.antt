use Rattle.std.proofs.Common.{◌≡◌, drop, map}
use Rattle.lin_edn.specs.Value.{values_of}
use Rattle.lin_edn.specs.View.{view}
use Rattle.lin_history.specs.PassedMaps.{keywords_of}
use Rattle.lin_history.specs.inner.Passing.{passed_more}
use Rattle.lin_history.proofs.follow.pass_over_all.Given as goal

abbrev pub invariant-loop-item : goal.invariant-loop-item
invariant-loop-item l =
    passed_more l.fn.passed (keywords_of (values_of (map view l.items))) ≡ passed_more l.passed (keywords_of (values_of (map view (drop l.item-index l.items))))
