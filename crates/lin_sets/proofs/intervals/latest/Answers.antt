use Rattle.std.proofs.Common.{Some, List, sym, subst, ◌∙◌}
use Rattle.std.proofs.lemmas.List.{take_all}
use Rattle.lin_events.specs.declared.items.Item.{Item}
use Rattle.lin_sets.specs.Steps.{IsLatest}
use Rattle.lin_sets.proofs.Fitting.{latest_next}
use Rattle.lin_sets.proofs.intervals.latest.Goals as goal

pub loop-item-preserved : goal.loop-item-preserved
loop-item-preserved c =
    latest_next c.args.first.now c.args.at c.args.items.now c.loop-item.item-index _ c.loop-item.latest c.in_ok-get.field-0 c.later-latest.result
    c.loop-item-test.true (sym c.get.ensures ∙ c.in_ok-get.was) c.loop-item.invariant c.later-latest.ensures

pub returns : goal.returns
returns c =
    let all = take_all c.loop-item.item-index c.args.items.now c.loop-item-test.false in
    subst (λ (l : List Item). IsLatest c.args.first.now c.args.at l (Some c.loop-item.latest)) all c.loop-item.invariant
