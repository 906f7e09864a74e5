-- Which members were gathered, and from where each one comes.
use Rattle.std.specs.Prelude.{◌≡◌, ◌≢◌, ◌<◌, ◌⊎◌, ℕ, List, IsTrue, Some, length, slice_get, Contains}
use Rattle.lin_events.specs.declared.events.Event.{Event}
use Rattle.lin_queues.specs.declared.gathered.Gathered.{Gathered}
use Rattle.lin_queues.specs.declared.members.QueueMember.{QueueMember}
use Rattle.lin_queues.specs.declared.opens.OpenCall.{OpenCall}
use Rattle.lin_queues.specs.Members.{AreUnpaid, IsAtLeast, View, view_of}
use Rattle.lin_queues.specs.Opens.{AreDequeues, AreOpen}

-- none of them is as good as another one
abbrev pub AreApart : List QueueMember → Type 0
AreApart members = (i j : ℕ) (m n : QueueMember) → slice_get members i ≡ Some m → slice_get members j ≡ Some n → i ≢ j → IsAtLeast (view_of m) (view_of n) → ⊥

-- more members were gathered, all of which are so, and can pay their debts
pub record Gains (old new : Gathered) (becomes : View → Type 0) : Type 0 where
  pub each : (m : QueueMember) → Contains new.members.items m → Contains old.members.items m ⊎ (becomes (view_of m) × (AreUnpaid m.debts.items old.dequeues.items → ⊥))
  pub apart : AreApart old.members.items → AreApart new.members.items
  pub full : (IsTrue old.is_full → 128 < length old.members.items) → IsTrue new.is_full → 128 < length new.members.items

-- each member that was gathered comes of one of these; where they were too many, they are more than 128
pub record AreGathered (members : List QueueMember) (open' : List OpenCall) (next : Gathered) (becomes : View → View → Type 0) : Type 0 where
  pub each : (n : QueueMember) → Contains next.members.items n → (m : QueueMember) × Contains members m × becomes (view_of m) (view_of n) × (AreUnpaid n.debts.items next.dequeues.items → ⊥)
  pub apart : AreApart next.members.items
  pub full : IsTrue next.is_full → 128 < length next.members.items
  pub dequeues : (h : List Event) → AreOpen h open' → AreDequeues h next.dequeues.items
