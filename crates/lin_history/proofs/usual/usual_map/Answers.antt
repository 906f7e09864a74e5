use Rattle.std.proofs.Common.{None, ◌+◌, ◌<◌, ◌≤◌, length, arith}
use Rattle.lin_history.specs.declared.usual.ValueExtents.{ValueExtents}
use Rattle.lin_history.proofs.Maps.{blanks_more, none_yet, map_closed}
use Rattle.lin_history.proofs.usual.usual_map.Goals as goal

pub loop-at-init : goal.loop-at-init
loop-at-init c =
    let s = c.args.text.now in
    let from = c.args.from in
    let a = c.white_until-at.ensures.within.0 in
    let none : ValueExtents = record { process = None; event_type = None; function = None; value = None } in (
      omega arith,
      c.white_until-at.ensures.within.1,
      blanks_more s from (from + 1) c.white_until-at.result c.args.levels none (none_yet s from c.args.levels) c.white_until-at.ensures.row,
    )

pub returns-then-text-at-eq125-clause-map : goal.returns-then-text-at-eq125-clause-map
returns-then-text-at-eq125-clause-map c =
    let s = c.args.text.now in
    let begun : c.args.from < c.args.end = c.requires.begun in
    let inside : c.args.end ≤ length s = c.requires.inside in
    let here = c.loop-at-test.true in
    map_closed s c.args.from c.loop-at.at c.args.levels c.loop-at.places (omega arith) c.requires.opens (omega arith) c.if-text-at-eq125.true c.loop-at.invariant.2

pub loop-at-preserved : goal.loop-at-preserved
loop-at-preserved c =
    let s = c.args.text.now in
    let from = c.args.from in
    let a = c.loop-at.invariant.0 in
    let b = c.take_entry-used.ensures.within.0 in
    let d = c.if-used-at.false in
    let e = c.white_until-at-in-loop-at.ensures.within.0 in (
      omega arith,
      c.white_until-at-in-loop-at.ensures.within.1,
      blanks_more s from c.take_entry-used.result c.white_until-at-in-loop-at.result c.args.levels c.take_entry-used.new.places
          (c.take_entry-used.ensures.taken (omega arith) from c.loop-at.invariant.2) c.white_until-at-in-loop-at.ensures.row,
    )
