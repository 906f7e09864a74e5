use Rattle.std.proofs.Common.{◌≡◌, ◌≤◌, false, All, count_by, take}
use Rattle.lin_compressed_frontier.proofs.completions.Completion.count_hindering.Given as goal

abbrev pub invariant-loop-other : goal.invariant-loop-other
invariant-loop-other g l = record {
  within : l.many ≤ l.other-index;
  quiet : All (λ o. g.O.SeqObject.observing l.self.object.now o.call ≡ false) (take l.other-index l.self.pending.now);
  counted : l.many ≡ count_by (λ o. g.O.SeqObject.hindered l.self.object.now l.self.operation.now.call l.self.reply.now o.call) (take l.other-index l.self.pending.now);
}
