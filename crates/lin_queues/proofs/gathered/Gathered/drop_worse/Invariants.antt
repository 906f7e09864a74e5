use Rattle.std.proofs.Common.{◌≡◌, ◌⊎◌, ◌<◌, ◌-◌, ℕ, Some, length, slice_get, Contains}
use Rattle.lin_queues.specs.declared.members.QueueMember.{QueueMember}
use Rattle.lin_queues.specs.Gains.{AreApart}
use Rattle.lin_queues.specs.Members.{IsAtLeast, view_of}
use Rattle.lin_queues.proofs.gathered.Gathered.drop_worse.Given as goal

abbrev pub invariant-loop-at : goal.invariant-loop-at
invariant-loop-at l = record {
  members : (m : QueueMember) → Contains l.fn.self.members.items m → Contains l.self.members.items m ⊎ IsAtLeast (view_of l.member) (view_of m);
  left : (m : QueueMember) → Contains l.self.members.items m → Contains l.fn.self.members.items m;
  apart : AreApart l.fn.self.members.items → AreApart l.self.members.items;
  passed : (k : ℕ) (m : QueueMember) → k < l.at → slice_get l.self.members.items k ≡ Some m → IsAtLeast (view_of l.member) (view_of m) → ⊥;
  full : l.self.is_full ≡ l.fn.self.is_full;
  dequeues : l.self.dequeues ≡ l.fn.self.dequeues;
}

abbrev pub decreases-loop-at : goal.decreases-loop-at
decreases-loop-at l = length l.self.members.items - l.at
