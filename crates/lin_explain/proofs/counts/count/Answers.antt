use Rattle.std.proofs.Common.{sym}
use Rattle.lin_explain.specs.Counts.{counts}
use Rattle.lin_explain.proofs.Counting.{counted, uncounted}
use Rattle.lin_explain.proofs.counts.count.Goals as goal
use Rattle.lin_explain.proofs.counts.count.Goals.{then-is_counted, else-is_counted}

pub loop-at-preserved : goal.loop-at-preserved
loop-at-preserved c = elim c.if-is_counted.branch [
  | then-is_counted w ↦ counted (counts c.args.key c.args.sort) c.args.present.now.history c.loop-at.at c.in-Some.event.now c.loop-at.found c.if-is_counted.found
      c.in-Some.ensures.found c.loop-at.invariant (sym w.if-is_counted.ensures) w.found-is
  | else-is_counted w ↦ uncounted (counts c.args.key c.args.sort) c.args.present.now.history c.loop-at.at c.in-Some.event.now c.loop-at.found c.if-is_counted.found
      c.in-Some.ensures.found c.loop-at.invariant (sym w.if-is_counted.ensures) w.found-is
]
