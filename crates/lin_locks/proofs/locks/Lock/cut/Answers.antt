use Rattle.std.proofs.Common.{◌≡◌, ◌<◌, ◌≤◌, ◌+◌, arith}
use Rattle.lin_locks.specs.Locks.{reached_in}
use Rattle.lin_locks.proofs.Undoing.{of_edited}
use Rattle.lin_locks.proofs.locks.Lock.cut.Goals as goal

pub loop-self-preserved : goal.loop-self-preserved
loop-self-preserved c = record {
  told = λ h told. c.take_back.ensures.told h (c.loop-self.invariant.told h told);
  reached =
      let fewer : reached_in c.take_back.new.self + 1 ≡ reached_in c.loop-self.self = c.take_back.ensures.fewer in
      let more : c.args.place < reached_in c.loop-self.self = omega (arith, c.loop-self-test.true, c.len.ensures, c.loop-self.self.changes.ok.0) in
      omega (arith, fewer, more, c.loop-self.invariant.reached);
}

pub returns-clause-right : goal.returns-clause-right
returns-clause-right c = λ h edited told alike.
    let fits : reached_in c.loop-self.self ≤ c.args.place = omega (arith, c.loop-self-test.false, c.len.ensures, c.loop-self.self.changes.ok.0) in
    of_edited c.loop-self.self h edited c.args.place fits alike (c.loop-self.invariant.told h told)
