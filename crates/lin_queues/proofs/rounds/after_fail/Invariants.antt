use Rattle.std.proofs.Common.{◌≡◌, ◌<◌, ℕ, List, Some, slice_get, length, Contains}
use Rattle.lin_events.specs.declared.events.Event.{Event}
use Rattle.lin_order.specs.declared.placed.Placed.{Placed}
use Rattle.lin_queues.specs.Debts.{IsWhole}
use Rattle.lin_queues.specs.declared.elements.Element.{Element}
use Rattle.lin_queues.specs.declared.members.QueueMember.{QueueMember}
use Rattle.lin_queues.specs.Gains.{AreGathered}
use Rattle.lin_queues.specs.Gathering.{IsCovered}
use Rattle.lin_queues.specs.Members.{Told, view_of}
use Rattle.lin_queues.specs.Reaching.{Fails}
use Rattle.lin_queues.specs.Opens.{AreDequeues, AreOpen}
use Rattle.lin_queues.proofs.rounds.after_fail.Given as goal

abbrev pub invariant-loop-member : goal.invariant-loop-member
invariant-loop-member l = record {
  gathered : AreGathered l.members l.open l.next (Fails l.place);
  paying : (h : List Event) → AreOpen h l.open → AreDequeues h l.next.dequeues.items;
  told : (h whole : List Event) (order : List Placed) (all : List Element) → AreOpen h l.open → IsWhole h whole order → (k : ℕ) (m : QueueMember) → k < l.member-index → slice_get l.members k ≡ Some m → (Contains m.early.items l.place → ⊥) → Told whole order (length h) all (view_of m) → IsCovered whole order (length h) all l.next.members.items l.next.is_full;
}
