use Rattle.std.proofs.Common.{◌≡◌, ◌&&◌, false, not, All, take}
use Rattle.lin_members.proofs.watching.may_be_watched.Given as goal

abbrev pub invariant-loop-operation : goal.invariant-loop-operation
invariant-loop-operation g l = All (λ o. (g.O.SeqObject.observing l.object o.call && not o.crashed) ≡ false) (take l.operation-index l.pending)
