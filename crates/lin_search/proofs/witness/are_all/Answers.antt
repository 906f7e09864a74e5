use Rattle.std.proofs.Common.{◌<◌, ◌≤◌, length, arith}
use Rattle.lin_search.proofs.Witnesses.{all_more, all_at_end}
use Rattle.lin_search.proofs.witness.are_all.Goals as goal

pub loop-at-preserved : goal.loop-at-preserved
loop-at-preserved c =
    let h = c.args.events.now in
    let picks = c.args.picks.now in
    let k = c.loop-at.at in
    let in_picks : k < length picks = c.loop-at-test.true in
    let within : k < length h = omega (arith, in_picks, c.if-events-picks.false) in
    all_more h picks k in_picks within c.if-pick-at.false c.loop-at.invariant

pub returns : goal.returns
returns c true_now =
    let h = c.args.events.now in
    let k = c.loop-at.at in
    let past : length c.args.picks.now ≤ k = c.loop-at-test.false in
    all_at_end h c.args.picks.now k past (omega (arith, past, c.if-events-picks.false)) c.loop-at.invariant
