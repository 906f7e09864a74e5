use Rattle.std.proofs.Common.{◌≡◌, ◌++◌, ◌+◌, ◌*◌, ◌-◌, ◌≤◌, length, map}
use Rattle.lin_frontier.specs.Walks.{IsTriedAtMost}
use Rattle.lin_compressed_frontier.proofs.Completing.{IsWorking}
use Rattle.lin_compressed_frontier.proofs.completions.Completion.search.Given as goal

abbrev pub invariant-loop-start : goal.invariant-loop-start
invariant-loop-start g l = record {
  within : l.start-index ≤ length l.starts;
  working : IsWorking (g.O.SeqObject.step l.self.object.now) (g.O.SeqObject.observing l.self.object.now) l.self.pending.now l.self.operation.now l.self.reply.now (map (λ m. m.now) l.starts) l.fn.nodes l.nodes
      l.start-index (map (λ m. m.now) l.starts ++ l.visited.items) l.out.items;
  tried : IsTriedAtMost (l.start-index * (2 * length l.self.pending.now + 1)) l.fn.meter l.meter;
}

abbrev pub invariant-loop-member : goal.invariant-loop-member
invariant-loop-member g l = record {
  counted : l.tried ≡ length l.starts + l.at;
  within : l.tried ≤ l.limit;
  working : IsWorking (g.O.SeqObject.step l.self.object.now) (g.O.SeqObject.observing l.self.object.now) l.self.pending.now l.self.operation.now l.self.reply.now (map (λ m. m.now) l.starts) l.fn.nodes l.nodes
      l.tried (map (λ m. m.now) l.starts ++ l.visited.items) l.out.items;
  tried : IsTriedAtMost (l.tried * (2 * length l.self.pending.now + 1)) l.fn.meter l.meter;
}

abbrev pub decreases-loop-member : goal.decreases-loop-member
decreases-loop-member g l = l.limit + 1 - l.tried
