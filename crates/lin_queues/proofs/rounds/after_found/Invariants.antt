use Rattle.std.proofs.Common.{◌≡◌, ◌<◌, ℕ, Bool, List, Some, slice_get, length}
use Rattle.lin_events.specs.declared.items.Item.{Item}
use Rattle.lin_events.specs.declared.events.Event.{Event}
use Rattle.lin_events.specs.declared.calls.Name.{Name}
use Rattle.lin_events.specs.declared.calls.Call.TheVariants.{Dequeue}
use Rattle.lin_events.specs.declared.calls.Reply.TheVariants.{Value}
use Rattle.lin_events.specs.declared.calls.Val.TheVariants.{Item as Held}
use Rattle.lin_order.specs.declared.placed.Placed.{Placed}
use Rattle.lin_order.specs.ConfigurationLaws.{with_event}
use Rattle.lin_queues.specs.declared.elements.Element.{Element}
use Rattle.lin_queues.specs.declared.members.QueueMember.{QueueMember}
use Rattle.lin_queues.specs.Chains.{IsLinked}
use Rattle.lin_queues.specs.Gains.{AreGathered}
use Rattle.lin_queues.specs.Gathering.{IsCovered, IsReturning}
use Rattle.lin_queues.specs.Members.{Told, view_of}
use Rattle.lin_queues.specs.Reaching.{Finds}
use Rattle.lin_queues.specs.Opens.{AreDequeues, AreOpen}
use Rattle.lin_queues.proofs.rounds.after_found.Given as goal

abbrev pub invariant-loop-member : goal.invariant-loop-member
invariant-loop-member l = record {
  gathered : AreGathered l.members l.open l.next (Finds l.elements l.open l.returned.dequeue l.returned.item l.returned.time);
  paying : (h : List Event) → AreOpen h l.open → AreDequeues h l.next.dequeues.items;
  told : (functions : Item → Name → Bool) (h : List Event) (event : Event) (whole : List Event) (order : List Placed) → l.returned.time ≡ length h → IsLinked l.elements → ((i : ℕ) (x : Element) → slice_get l.elements i ≡ Some x → x.item ≡ l.returned.item → i < l.returned.end) → AreOpen (with_event h event) l.open → IsReturning functions h event l.returned.dequeue Dequeue (Value (Held l.returned.item)) whole order l.elements → (k : ℕ) (m : QueueMember) → k < l.member-index → slice_get l.members k ≡ Some m → Told whole order (length h) l.elements (view_of m) → IsCovered whole order (length (with_event h event)) l.elements l.next.members.items l.next.is_full;
}
