use Rattle.std.proofs.Common.{length, ◌-◌, ℕ, List}
use Rattle.lin_events.specs.declared.events.Event.{Event as EventOf}
use Rattle.lin_order.specs.declared.placed.Placed.{Placed as PlacedOf}
use Rattle.lin_queues.specs.Members.{AreEnqueues, AreOwed, IsInside, Told, View, view_of}
use Rattle.lin_queues.specs.Reaching.{Sinks}
use Rattle.lin_queues.proofs.members.QueueMember.sink.Given as goal

abbrev pub invariant-loop-self : goal.invariant-loop-self
invariant-loop-self l = record {
  told : (whole : List EventOf) (order : List PlacedOf) (n : ℕ) → AreEnqueues whole l.elements → Told whole order n l.elements (view_of l.fn.self) → AreOwed whole order n l.elements (view_of l.fn.self) l.by l.time → Told whole order n l.elements (view_of l.self);
  sinks : (w : View) → Sinks l.elements l.by l.time (view_of l.self) w → Sinks l.elements l.by l.time (view_of l.fn.self) w;
  left : (element : ℕ) → IsInside l.elements (view_of l.self) element → IsInside l.elements (view_of l.fn.self) element;
}

abbrev pub decreases-loop-self : goal.decreases-loop-self
decreases-loop-self l = length l.elements - l.self.low
