use Rattle.std.proofs.Common.{◌≡◌, All, take}
use Rattle.lin_members.specs.Batches.{all_of}
use Rattle.lin_members.proofs.batches.round_among.Given as goal

abbrev pub invariant-loop-batch : goal.invariant-loop-batch
invariant-loop-batch l = All (λ o. o.1 ≡ (l.process, l.reply) → ⊥) (all_of (take l.batch-index l.batches))
