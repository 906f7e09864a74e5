use Rattle.std.proofs.Common.{◌≡◌, ◌<◌, ◌≤◌, ℕ, List, length}
use Rattle.lin_events.specs.declared.events.Event.{Event}
use Rattle.lin_order.specs.declared.placed.Placed.{Placed}
use Rattle.lin_queues.specs.Debts.{IsWhole}
use Rattle.lin_queues.specs.Chains.{IsLinked}
use Rattle.lin_queues.specs.Gains.{Gains}
use Rattle.lin_queues.specs.Gathering.{IsCovered, Keeps, MayTake}
use Rattle.lin_queues.specs.Members.{AreEnqueues, view_of}
use Rattle.lin_queues.specs.Reaching.{Takes}
use Rattle.lin_queues.specs.Opens.{AreDequeues}
use Rattle.lin_queues.proofs.gathered.Gathered.take.Given as goal

abbrev pub invariant-loop-end : goal.invariant-loop-end
invariant-loop-end l = record {
  told : (h whole : List Event) (order : List Placed) (at : ℕ) → IsLinked l.elements → l.end ≤ at → at < l.returned.end → IsWhole h whole order → AreDequeues h l.fn.self.dequeues.items → AreEnqueues whole l.elements
      → MayTake whole order (length h) l.elements (view_of l.member) l.returned.time l.returned.item at → IsCovered whole order (length h) l.elements l.self.members.items l.self.is_full;
  gains : Gains l.fn.self l.self (Takes l.elements l.returned.item l.returned.time (view_of l.member));
  kept : Keeps l.fn.self l.self;
  dequeues : l.self.dequeues ≡ l.fn.self.dequeues;
  within : l.end ≤ length l.elements;
}

abbrev pub decreases-loop-end : goal.decreases-loop-end
decreases-loop-end l = l.end
