use Rattle.std.proofs.Common.{take}
use Rattle.lin_possibilities.specs.inner.Telling.{AreWatching}
use Rattle.lin_possibilities.proofs.telling.Telling.observers.Given as goal

abbrev pub invariant-loop-operation : goal.invariant-loop-operation
invariant-loop-operation g l = AreWatching (g.O.SeqObject.observing l.self.object.now) (take l.operation-index l.self.pending.now) l.found.items
