use Rattle.std.proofs.Common.{◌≡◌, ◌<◌, ◌-◌, ◌++◌, ◌∷◌, [], ℕ, Bool, List, Some, slice_get, length}
use Rattle.lin_events.specs.declared.items.Item.{Item}
use Rattle.lin_events.specs.declared.events.Event.{Event}
use Rattle.lin_events.specs.declared.calls.Name.{Name}
use Rattle.lin_events.specs.declared.calls.Reply.{Reply}
use Rattle.lin_events.specs.declared.calls.Call.TheVariants.{Enqueue}
use Rattle.lin_order.specs.declared.placed.Placed.{Placed}
use Rattle.lin_order.specs.ConfigurationLaws.{with_event}
use Rattle.lin_queues.specs.declared.elements.Element.{Element}
use Rattle.lin_queues.specs.declared.members.QueueMember.{QueueMember}
use Rattle.lin_queues.specs.Gains.{AreGathered}
use Rattle.lin_queues.specs.Gathering.{IsCovered, IsReturning}
use Rattle.lin_queues.specs.Members.{Told, view_of}
use Rattle.lin_queues.specs.Reaching.{PutsIn}
use Rattle.lin_queues.specs.Opens.{AreDequeues, AreOpen}
use Rattle.lin_queues.proofs.rounds.after_put.Given as goal

abbrev pub invariant-loop-member : goal.invariant-loop-member
invariant-loop-member l = record {
  gathered : AreGathered l.members l.open l.next (PutsIn l.elements l.place (length l.elements - 1) l.time);
  paying : (h : List Event) → AreOpen h l.open → AreDequeues h l.next.dequeues.items;
  told : (functions : Item → Name → Bool) (h : List Event) (event : Event) (reply : Reply) (whole : List Event) (order : List Placed) (before : List Element) (new : Element) → l.elements ≡ before ++ new ∷ [] → new.place ≡ l.place → l.time ≡ length h → new.returned ≡ l.time → AreOpen (with_event h event) l.open → IsReturning functions h event l.place (Enqueue new.item) reply whole order l.elements → (k : ℕ) (m : QueueMember) → k < l.member-index → slice_get l.members k ≡ Some m → Told whole order (length h) before (view_of m) → IsCovered whole order (length (with_event h event)) l.elements l.next.members.items l.next.is_full;
}
