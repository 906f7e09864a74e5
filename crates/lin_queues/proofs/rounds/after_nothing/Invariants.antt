use Rattle.std.proofs.Common.{◌≡◌, ◌<◌, ℕ, Bool, List, Some, slice_get, length}
use Rattle.lin_events.specs.declared.items.Item.{Item}
use Rattle.lin_events.specs.declared.events.Event.{Event}
use Rattle.lin_events.specs.declared.calls.Name.{Name}
use Rattle.lin_events.specs.declared.calls.Call.TheVariants.{Dequeue}
use Rattle.lin_events.specs.declared.calls.Reply.TheVariants.{Value}
use Rattle.lin_events.specs.declared.calls.Val.TheVariants.{Nil}
use Rattle.lin_order.specs.declared.placed.Placed.{Placed}
use Rattle.lin_order.specs.ConfigurationLaws.{with_event}
use Rattle.lin_queues.specs.declared.members.QueueMember.{QueueMember}
use Rattle.lin_queues.specs.Gains.{AreGathered}
use Rattle.lin_queues.specs.Gathering.{IsCovered, IsReturning}
use Rattle.lin_queues.specs.Members.{Told, view_of}
use Rattle.lin_queues.specs.Reaching.{FindsNothing}
use Rattle.lin_queues.specs.Opens.{AreDequeues, AreOpen}
use Rattle.lin_queues.proofs.rounds.after_nothing.Given as goal

abbrev pub invariant-loop-member : goal.invariant-loop-member
invariant-loop-member l = record {
  gathered : AreGathered l.members l.open l.next (FindsNothing l.elements l.dequeue l.time);
  paying : (h : List Event) → AreOpen h l.open → AreDequeues h l.next.dequeues.items;
  told : (functions : Item → Name → Bool) (h : List Event) (event : Event) (whole : List Event) (order : List Placed) → l.time ≡ length h → AreOpen (with_event h event) l.open → IsReturning functions h event l.dequeue Dequeue (Value Nil) whole order l.elements → (k : ℕ) (m : QueueMember) → k < l.member-index → slice_get l.members k ≡ Some m → Told whole order (length h) l.elements (view_of m) → IsCovered whole order (length (with_event h event)) l.elements l.next.members.items l.next.is_full;
}
