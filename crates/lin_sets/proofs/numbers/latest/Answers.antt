use Rattle.std.proofs.Common.{◌+◌, take, sym, subst, ◌∙◌}
use Rattle.std.proofs.lemmas.Option.{slice_get-get_or}
use Rattle.lin_sets.specs.Points.{IsLatest}
use Rattle.lin_sets.proofs.Numbering.{latest_next, latest_same}
use Rattle.lin_sets.proofs.numbers.latest.Goals as goal
use Rattle.lin_sets.proofs.numbers.latest.Goals.{in-Some, in_default}

pub loop-item-preserved : goal.loop-item-preserved
loop-item-preserved c =
    let items = c.args.items.now in
    let i = c.loop-item.item-index in
    let is = slice_get-get_or items i _ c.loop-item-test.true in
    elim c.match-get.branch [
      | in-Some w ↦ latest_next c.args.first.now.entries c.args.from items i _ is c.loop-item.latest c.loop-item.invariant w.in-Some.at.now c.match-get.latest (sym w.in-Some.ensures.value) (w.latest-is ∙ w.max-latest.ensures)
      | in_default w ↦ subst (IsLatest c.args.first.now.entries c.args.from (take (i + 1) items)) (sym w.latest-is)
          (latest_same c.args.first.now.entries c.args.from items i _ is c.loop-item.latest c.loop-item.invariant (sym w.in_default.ensures.value))
    ]
