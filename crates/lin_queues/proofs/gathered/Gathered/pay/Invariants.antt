use Rattle.std.proofs.Common.{◌≡◌, ◌<◌, ℕ, List, length}
use Rattle.lin_events.specs.declared.events.Event.{Event}
use Rattle.lin_order.specs.declared.placed.Placed.{Placed}
use Rattle.lin_queues.specs.Debts.{IsWhole}
use Rattle.lin_queues.specs.declared.elements.Element.{Element}
use Rattle.lin_queues.specs.Gains.{Gains}
use Rattle.lin_queues.specs.Gathering.{IsCovered, Keeps, MayPay}
use Rattle.lin_queues.specs.Members.{view_of}
use Rattle.lin_queues.specs.Reaching.{Pays}
use Rattle.lin_queues.specs.Opens.{AreDequeues}
use Rattle.lin_queues.proofs.gathered.Gathered.pay.Given as goal

abbrev pub invariant-loop-at : goal.invariant-loop-at
invariant-loop-at l = record {
  told : (h whole : List Event) (order : List Placed) (all : List Element) (at : ℕ) → at < l.at → IsWhole h whole order → AreDequeues h l.fn.self.dequeues.items → MayPay whole order (length h) all (view_of l.member) l.returned.dequeue l.returned.item at
      → IsCovered whole order (length h) all l.self.members.items l.self.is_full;
  gains : Gains l.fn.self l.self (Pays l.returned.dequeue l.returned.item (view_of l.member));
  kept : Keeps l.fn.self l.self;
  dequeues : l.self.dequeues ≡ l.fn.self.dequeues;
}
