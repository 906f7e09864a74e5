use Rattle.std.proofs.Common.{[], ◌∷◌, ◌++◌, arith}
use Rattle.lin_report.proofs.Pulling.{none_entered, one_more_entered}
use Rattle.lin_report.proofs.pulls.put_ready.Goals as goal

pub events-init : goal.events-init
events-init c = record { entered = []; so_far = none_entered c.args.session.now.present c.args.follow.now }

pub events-preserved : goal.events-preserved
events-preserved c = record {
  entered = c.events.invariant.entered ++ c.in-Some.event ∷ [];
  so_far = one_more_entered c.args.session.now.present c.events.session.present c.append.new.session.present c.args.follow.now c.events.follow c.take.new.self
      c.events.invariant.entered c.in-Some.event c.events.invariant.so_far (omega (arith, c.events-test.true, c.len.ensures)) c.in-Some.ensures c.in_ok-append.ensures;
}
