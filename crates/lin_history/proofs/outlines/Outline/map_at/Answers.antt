use Rattle.std.proofs.Common.{◌<◌, ◌≤◌, length, arith}
use Rattle.lin_history.proofs.Maps.{blanks_more, none_yet, map_closed}
use Rattle.lin_history.proofs.outlines.Outline.map_at.Goals as goal

pub loop-key-init : goal.loop-key-init
loop-key-init c = (omega arith, (let lt = c.requires.begun in omega arith), none_yet c.args.text.now c.args.from c.args.levels)

pub returns-clause-map : goal.returns-clause-map
returns-clause-map c =
    let s = c.args.text.now in
    let from = c.args.from in
    let begun : c.args.from < c.args.end = c.requires.begun in
    let inside : c.args.end ≤ length s = c.requires.inside in
    let last = c.white_until-last.result in
    let before = c.white_until-last.ensures.within.1 in
    let here = c.if-last-end.false in
    map_closed s from last c.args.levels c.loop-key.places (omega arith) c.requires.opens (omega arith) c.if-text-last-ne125.false
    (blanks_more s from c.loop-key.at last c.args.levels c.loop-key.places c.loop-key.invariant.2 c.white_until-last.ensures.row)
