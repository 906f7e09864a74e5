use Rattle.std.proofs.Common.{◌≡◌, ◌<◌, ℕ, Some, slice_get}
use Rattle.lin_queues.specs.declared.members.QueueMember.{QueueMember}
use Rattle.lin_queues.specs.Members.{IsAtLeast, view_of}
use Rattle.lin_queues.proofs.gathered.Gathered.has_better.Given as goal

abbrev pub invariant-loop-other : goal.invariant-loop-other
invariant-loop-other l = (k : ℕ) (m : QueueMember) → k < l.other-index → slice_get l.self.members.items k ≡ Some m → IsAtLeast (view_of m) (view_of l.member) → ⊥
