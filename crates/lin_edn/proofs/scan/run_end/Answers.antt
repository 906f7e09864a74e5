use Rattle.std.proofs.Common.{◌+◌, sym, arith}
use Rattle.lin_edn.proofs.Clear.{none_clear, clear_more, clear_two, clear_three, clear_four, stops_here, stops_on}
use Rattle.lin_edn.proofs.scan.run_end.Goals as goal

pub loop-at-init : goal.loop-at-init
loop-at-init c = (omega arith, c.requires.begun, none_clear c.args.input.now c.args.from)

pub returns-then-is_stop : goal.returns-then-is_stop
returns-then-is_stop c =
    let inv = c.loop-at.invariant in
    stops_here c.args.input.now c.args.from c.loop-at.at c.args.end inv.0 inv.1 inv.2 (sym c.if-is_stop.ensures)

pub returns-then-is_stop-2 : goal.returns-then-is_stop-2
returns-then-is_stop-2 c =
    let s = c.args.input.now in
    let at = c.loop-at.at in
    let inv = c.loop-at.invariant in
    let a = inv.0 in
    let room = c.loop-at-test.true in
    stops_here s c.args.from (at + 1) c.args.end (omega arith) (omega arith) (clear_more s c.args.from at inv.2 (sym c.if-is_stop.ensures)) (sym c.if-is_stop-2.ensures)

pub returns-then-is_stop-3 : goal.returns-then-is_stop-3
returns-then-is_stop-3 c =
    let s = c.args.input.now in
    let at = c.loop-at.at in
    let inv = c.loop-at.invariant in
    let a = inv.0 in
    let room = c.loop-at-test.true in
    stops_here s c.args.from (at + 2) c.args.end (omega arith) (omega arith) (clear_two s c.args.from at inv.2 c.if-is_stop.ensures c.if-is_stop-2.ensures)
    (sym c.if-is_stop-3.ensures)

pub returns-then-is_stop-4 : goal.returns-then-is_stop-4
returns-then-is_stop-4 c =
    let s = c.args.input.now in
    let at = c.loop-at.at in
    let inv = c.loop-at.invariant in
    let a = inv.0 in
    let room = c.loop-at-test.true in
    stops_here s c.args.from (at + 3) c.args.end (omega arith) (omega arith)
    (clear_three s c.args.from at inv.2 c.if-is_stop.ensures c.if-is_stop-2.ensures c.if-is_stop-3.ensures) (sym c.if-is_stop-4.ensures)

pub loop-at-preserved : goal.loop-at-preserved
loop-at-preserved c =
    let s = c.args.input.now in
    let at = c.loop-at.at in
    let inv = c.loop-at.invariant in
    let a = inv.0 in
    let room = c.loop-at-test.true in (
      omega arith,
      omega arith,
      clear_four s c.args.from at inv.2 c.if-is_stop.ensures c.if-is_stop-2.ensures c.if-is_stop-3.ensures c.if-is_stop-4.ensures,
    )

pub returns : goal.returns
returns c =
    let inv = c.loop-at.invariant in
    stops_on c.args.input.now c.args.from c.loop-at.at c.args.end c.last_run_end.result inv.0 inv.2 c.last_run_end.ensures
