use Rattle.std.proofs.Common.{◌≡◌, ◌&&◌, false, nat_eq, All, take}
use Rattle.lin_members.proofs.watching.is_observing.Given as goal

abbrev pub invariant-loop-operation : goal.invariant-loop-operation
invariant-loop-operation g l = All (λ o. (nat_eq o.process l.process && g.O.SeqObject.observing l.object o.call) ≡ false) (take l.operation-index l.pending)
