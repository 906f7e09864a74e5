use Rattle.std.proofs.Common.{◌≡◌, ◌<◌, ℕ, List, Some, slice_get, length}
use Rattle.lin_events.specs.declared.events.Event.{Event}
use Rattle.lin_events.specs.declared.calls.Call.TheVariants.{Enqueue}
use Rattle.lin_order.specs.declared.placed.Placed.{Placed}
use Rattle.lin_queues.specs.Debts.{IsWhole}
use Rattle.lin_queues.specs.declared.opens.OpenCall.{OpenCall}
use Rattle.lin_queues.specs.Gains.{Gains}
use Rattle.lin_queues.specs.Gathering.{IsCovered, Keeps, MayTakeEarly}
use Rattle.lin_queues.specs.Members.{AreEnqueues, view_of}
use Rattle.lin_queues.specs.Reaching.{TakesEarly}
use Rattle.lin_queues.specs.Opens.{AreDequeues}
use Rattle.lin_queues.proofs.gathered.Gathered.take_early.Given as goal

abbrev pub invariant-loop-operation : goal.invariant-loop-operation
invariant-loop-operation l = record {
  told : (h whole : List Event) (order : List Placed) (k : ℕ) (o : OpenCall) → k < l.operation-index → slice_get l.open k ≡ Some o → o.call ≡ Enqueue l.returned.item → IsWhole h whole order → AreDequeues h l.fn.self.dequeues.items
      → AreEnqueues whole l.elements → MayTakeEarly whole order (length h) l.elements (view_of l.member) l.returned.time o.place → IsCovered whole order (length h) l.elements l.self.members.items l.self.is_full;
  gains : Gains l.fn.self l.self (TakesEarly l.elements l.open l.returned.item l.returned.time (view_of l.member));
  kept : Keeps l.fn.self l.self;
  dequeues : l.self.dequeues ≡ l.fn.self.dequeues;
}
