use Rattle.std.proofs.Common.{◌+◌, sym, subst}
use Rattle.lin_tables.proofs.Passing.{LastBelow, last_here, last_same}
use Rattle.lin_tables.proofs.Quieting.{AreBusyUntil, IsQuietUpTo, all_busy_more, quiet_at_end, quiet_back, quiet_here}
use Rattle.lin_tables.proofs.quiet.last_quiet.Goals.{then-begins_quietly, else-begins_quietly}
use Rattle.lin_tables.proofs.quiet.last_quiet.Goals as goal

pub loop-at-preserved : goal.loop-at-preserved
loop-at-preserved c =
    let h = c.args.events.now in
    let call = c.args.call in
    let at = c.loop-at.at in
    let so_far = c.loop-at.invariant.busy in
    let Is = IsQuietUpTo h call in
    record {
      busy = subst (AreBusyUntil h (at + 1)) (sym c.later-busy.ensures) (all_busy_more h at c.loop-at.busy c.busy_until.result so_far c.busy_until.ensures);
      quiet = elim c.if-begins_quietly.branch [
        | then-begins_quietly w ↦
            subst (LastBelow Is (at + 1)) (sym w.quiet-is) (last_here Is at c.loop-at.quiet (quiet_here h call at c.loop-at.busy so_far (c.begins_quietly.ensures.0 w.if-begins_quietly.true)))
        | else-begins_quietly w ↦
            subst (LastBelow Is (at + 1)) (sym w.quiet-is)
            (last_same Is at c.loop-at.quiet c.loop-at.invariant.quiet
            (λ is. let yes' = c.begins_quietly.ensures.1 (quiet_back h call at c.loop-at.busy so_far is) in let no' = w.if-begins_quietly.false in cc))
      ];
    }

pub returns : goal.returns
returns c = quiet_at_end c.args.events.now c.args.call c.loop-at.quiet c.loop-at.at c.loop-at-test.false c.loop-at.invariant.quiet
