use Rattle.std.proofs.Common.{◌≡◌, true, All, take}
use Rattle.lin_members.specs.Searching.{is_watching}
use Rattle.lin_members.proofs.batches.are_watching.Given as goal

abbrev pub invariant-loop-process : goal.invariant-loop-process
invariant-loop-process g l = All (λ x. is_watching (g.O.SeqObject.observing l.object) l.pending x ≡ true) (take l.process-index l.processes)
