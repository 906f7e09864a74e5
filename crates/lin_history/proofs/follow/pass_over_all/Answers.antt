use Rattle.std.proofs.Common.{◌+◌, drop, map, sym, ap, ◌∙◌}
use Rattle.lin_edn.specs.Value.{values_of}
use Rattle.lin_edn.specs.View.{view}
use Rattle.lin_history.specs.PassedMaps.{keyword_of, keywords_of}
use Rattle.lin_history.specs.Table.{bare}
use Rattle.lin_history.specs.inner.Passing.{passed_more}
use Rattle.lin_history.proofs.Counting.{keywords_step, more_twice}
use Rattle.lin_history.proofs.follow.pass_over_all.Goals as goal

pub loop-item-preserved : goal.loop-item-preserved
loop-item-preserved c =
    let items = c.args.items.now in
    let k = c.loop-item.item-index in
    let rest = keywords_of (values_of (map view (drop (k + 1) items))) in
    c.loop-item.invariant ∙ ap (passed_more c.loop-item.passed) (keywords_step items k c.item-item.result c.loop-item-test.true c.item-item.is)
    ∙ sym (more_twice c.loop-item.passed (keyword_of (bare (view c.item-item.result))) rest) ∙ ap (λ p. passed_more p rest) (sym c.take.ensures)
