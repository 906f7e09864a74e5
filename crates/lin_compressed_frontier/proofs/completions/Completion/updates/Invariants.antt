use Rattle.std.proofs.Common.{◌≡◌, true, take, length, ◌≤◌, ◌-◌}
use Rattle.lin_members.specs.Searching.{AreUpdates}
use Rattle.lin_frontier.specs.Walks.{IsTriedAtMost}
use Rattle.lin_compressed_frontier.proofs.completions.Completion.updates.Given as goal

abbrev pub invariant-loop-operation : goal.invariant-loop-operation
invariant-loop-operation g l = record {
  placed : AreUpdates (g.O.SeqObject.step l.self.object.now) (g.O.SeqObject.observing l.self.object.now) (take l.at l.pending) l.config l.out.items;
  few : g.O.SeqObject.overwriting l.self.object.now ≡ true → length l.out.items ≤ l.at;
  within : l.at ≤ length l.pending;
  tried : IsTriedAtMost l.at l.fn.meter l.meter;
}

abbrev pub decreases-loop-operation : goal.decreases-loop-operation
decreases-loop-operation g l = length l.pending - l.at
