-- What each form of a certificate says of the operations of one object. None of these has a legal order.
use Rattle.std.specs.Prelude.{◌≡◌, ◌≢◌, ◌⊎◌, ◌<◌, ◌≤◌, ◌+◌, ℕ, List, Option, None, Some, if◌then◌else◌, nat_eq}
use Rattle.lin_events.specs.declared.items.Item.{Item}
use Rattle.lin_events.specs.declared.calls.Call.TheVariants.{Dequeue}
use Rattle.lin_events.specs.declared.calls.Reply.TheVariants as Replied
use Rattle.lin_events.specs.declared.calls.Val.{Val}
use Rattle.lin_events.specs.declared.calls.Val.TheVariants.{Nil, Item as Held}
use Rattle.lin_events.specs.declared.events.Event.{Event}
use Rattle.lin_objects.specs.declared.kinds.Kind.{Kind}
use Rattle.lin_objects.specs.declared.kinds.Kind.TheVariants.{Register, CasRegister, Fifo, Bag, Set, Mutex}
use Rattle.lin_order.specs.Orders.{IsBefore}
use Rattle.lin_certificates.specs.Adding.{Adds}
use Rattle.lin_certificates.specs.Conflicts.{Leaves}
use Rattle.lin_certificates.specs.QueueConflicts.{Takes}
use Rattle.lin_certificates.specs.SetConflicts.{Has, Lacks}
use Rattle.lin_certificates.specs.Words.{AddsSome, Concerns, Counts, Exactly, Gives, IsOfCalls, MayTakeAhead, Needs, Returned, Spends, StaysOpen, Updates}
use Rattle.lin_certificates.specs.declared.words.Calls.{Calls}
use Rattle.lin_certificates.specs.declared.words.Calls.TheVariants.{Acquires, Releases}
use Rattle.lin_certificates.specs.declared.words.ReadSort.TheVariants as Sorted
use Rattle.lin_certificates.specs.declared.certificate.Certificate.{Certificate}
use Rattle.lin_certificates.specs.declared.certificate.Certificate.TheVariants as Form

-- the operation counts and leaves the value
abbrev pub CanLeave : List Event → Val → ℕ → Type 0
CanLeave h v at = Counts h (λ call. Leaves call v) at

-- it is another one that counts and leaves the value
abbrev pub OtherCanLeave : List Event → Val → ℕ → ℕ → Type 0
OtherCanLeave h v at other = (other ≢ at) × CanLeave h v other

-- the operation is ok, and the register had to hold the value for it
abbrev pub Needed : List Event → Val → ℕ → Type 0
Needed h v at = Returned h (λ call reply. Needs call reply v) at

-- what the operation needs isn't nil, and no other operation leaves it
abbrev pub IsUnwritten : List Event → ℕ → Item → Type 0
IsUnwritten h at v = Needed h (Held v) at × ((other : ℕ) → OtherCanLeave h (Held v) at other → ⊥)

-- the operation is ok, leaves some value, and is before the place
abbrev pub Overwrites : List Event → ℕ → ℕ → Type 0
Overwrites h place at = Returned h (λ call reply. Updates call) at × IsBefore h at place

-- some value was left instead of the one that the register begins with, or another operation leaves the value
abbrev pub HasSource : List Event → ℕ → Val → Type 0
HasSource h at Nil = (over : ℕ) × Overwrites h at over
HasSource h at (Held v) = (other : ℕ) × OtherCanLeave h (Held v) at other

-- what the operation needs was overwritten before it: whichever other operation leaves it is before one that leaves some value and is before this
pub record IsOverwritten (h : List Event) (at : ℕ) (v : Val) : Type 0 where
  pub needed : Needed h v at
  pub source : HasSource h at v
  pub each : (other : ℕ) → OtherCanLeave h v at other → (over : ℕ) × Overwrites h at over × IsBefore h other over

-- the register holds the value right ahead of the ok operation, or right behind it
abbrev pub Touched : List Event → Val → ℕ → Type 0
Touched h v at = Returned h (λ call reply. Needs call reply v ⊎ Leaves call v) at

-- so does one that leaves it, if an ok one touches it
abbrev pub Touches : List Event → Val → ℕ → Type 0
Touches h v at = Touched h v at ⊎ (CanLeave h v at × ((other : ℕ) × Touched h v other))

-- what an operation needs is stale: another one that touches another value is before it, and each other one that leaves the value is before that one
pub record IsStale (h : List Event) (at : ℕ) (v : Val) (over : ℕ) (w : Val) : Type 0 where
  pub differ : v ≢ w
  pub needed : Needed h v at
  pub touched : Touched h w over
  pub in_time : IsBefore h over at
  pub each : (other : ℕ) → OtherCanLeave h v at other → IsBefore h other over

abbrev pub IsLeftOnce : List Event → Val → Type 0
IsLeftOnce h v = Exactly 1 (CanLeave h v)

-- one operation leaves the value, and of two that touch it and the other value the first is before the second
abbrev pub IsLeftAhead : List Event → Val → Val → ℕ → ℕ → Type 0
IsLeftAhead h v w first second = IsLeftOnce h v × Touches h v first × Touches h w second × IsBefore h first second

-- nothing leaves nil, with which the register begins, or the item is left, and held ahead of the other value
abbrev pub IsAhead : List Event → Val → Val → Option (ℕ × ℕ) → Type 0
IsAhead h Nil w None = (at : ℕ) → CanLeave h Nil at → ⊥
IsAhead h (Held v) w (Some pair) = IsLeftAhead h (Held v) w pair.0 pair.1
IsAhead h _ _ _ = ⊥

-- values that are left by one operation each are held in turn, once each: but the one was held before the other, and the other before the one
-- (Gibbons and Korach 1997)
pub record AreCrossed (h : List Event) (v : Val) (w : Item) (early late : ℕ) (back : Option (ℕ × ℕ)) : Type 0 where
  pub differ : v ≢ Held w
  pub in_turn : IsLeftAhead h (Held w) v early late
  pub again : IsAhead h v (Held w) back

-- the operation is ok, and took the register from the value to another one
abbrev pub Spent : List Event → Val → ℕ → Type 0
Spent h v at = Returned h (λ call reply. Spends call v) at

-- a register begins with nil, once
abbrev pub begun : Val → ℕ
begun Nil = 1
begun (Held v) = 0

-- the register was taken from the value to another one more often than it can have come to the value
pub record IsSpent (h : List Event) (v : Val) : Type 0 where
  pub comes : ℕ
  pub goes : ℕ
  pub all_come : Exactly comes (CanLeave h v)
  pub all_go : Exactly goes (Spent h v)
  pub fewer : comes + begun v < goes

-- the operation counts and puts the item in, or adds it
abbrev pub CanAdd : List Event → Item → ℕ → Type 0
CanAdd h n at = Counts h (λ call. Adds call n) at

-- the operation is ok and took the item out
abbrev pub TookOut : List Event → Item → ℕ → Type 0
TookOut h n at = Returned h (λ call reply. Takes call reply n) at

-- the item was taken out more often than it can have been put in
pub record IsTaken (h : List Event) (n : Item) : Type 0 where
  pub puts : ℕ
  pub takes : ℕ
  pub all_puts : Exactly puts (CanAdd h n)
  pub all_takes : Exactly takes (TookOut h n)
  pub fewer : puts < takes

-- the item stays until the dequeue: this is before each other one that took the item, and, unless the item is put in by one operation
-- and known to be taken, before each other open one
pub record Stays (h : List Event) (n : Item) (dequeue : ℕ) : Type 0 where
  pub taken_later : (at : ℕ) → (at ≢ dequeue) × TookOut h n at → IsBefore h dequeue at
  pub open_later : (Exactly 1 (CanAdd h n) × ((at : ℕ) × TookOut h n at))
      ⊎ ((at : ℕ) → (at ≢ dequeue) × StaysOpen h (λ call. call ≡ Dequeue) at → IsBefore h dequeue at)

-- the dequeue took the other item, which can only have been put in behind the item, and this stays until then
pub record IsPassed (h : List Event) (enqueue later dequeue : ℕ) (n other : Item) : Type 0 where
  pub differ : n ≢ other
  pub put : Returned h (λ call reply. Adds call n) enqueue
  pub some_later : CanAdd h other later
  pub all_later : (at : ℕ) → CanAdd h other at → IsBefore h enqueue at
  pub took : TookOut h other dequeue
  pub stays : Stays h n dequeue

-- the dequeue found nothing, and the item was put in before it and stays until then
pub record IsInside (h : List Event) (enqueue dequeue : ℕ) (n : Item) : Type 0 where
  pub put : Returned h (λ call reply. Adds call n) enqueue
  pub found : Returned h (λ call reply. (call ≡ Dequeue) × (reply ≡ Replied.Value Nil)) dequeue
  pub in_time : IsBefore h enqueue dequeue
  pub stays : Stays h n dequeue

-- the operation is ok, puts some item in, and is before the place
abbrev pub PutsBefore : List Event → ℕ → ℕ → Type 0
PutsBefore h place at = Returned h (λ call reply. AddsSome call) at × IsBefore h at place

-- the dequeue found nothing, and more items were put in before it than other dequeues may have taken out ahead of it
pub record IsRemaining (h : List Event) (dequeue : ℕ) : Type 0 where
  pub found : Returned h (λ call reply. (call ≡ Dequeue) × (reply ≡ Replied.Value Nil)) dequeue
  pub puts : ℕ
  pub takes : ℕ
  pub all_puts : Exactly puts (PutsBefore h dequeue)
  pub all_takes : Exactly takes (MayTakeAhead h dequeue)
  pub fewer : takes < puts

-- the dequeue found nothing, and more of the items were put in before it than other dequeues may have taken out ahead of it
pub record IsSurplus (h : List Event) (dequeue : ℕ) (ns : List Item) : Type 0 where
  pub found : Returned h (λ call reply. (call ≡ Dequeue) × (reply ≡ Replied.Value Nil)) dequeue
  pub puts : ℕ
  pub takes : ℕ
  pub all_puts : Exactly puts (λ at. PutsBefore h dequeue at × Concerns h ns at)
  pub all_takes : Exactly takes (λ at. MayTakeAhead h dequeue at × Concerns h ns at)
  pub fewer : takes < puts

-- the operation is ok, took the item out, and is before the place; or it counts, puts the item in, and was invoked before the place
abbrev pub TookBefore : List Event → Item → ℕ → ℕ → Type 0
TookBefore h n place at = TookOut h n at × IsBefore h at place

abbrev pub CanAddBelow : List Event → Item → ℕ → ℕ → Type 0
CanAddBelow h n place at = CanAdd h n at × (at < place)

-- The dequeue took the item out. At most as many enqueues of it were invoked before `later`, one of them, as dequeues took it before this one: so it
-- took what was put in there or behind. And more items were put in before that than other dequeues may have taken out ahead of it.
pub record IsPreceded (h : List Event) (later dequeue : ℕ) (n : Item) : Type 0 where
  pub took : TookOut h n dequeue
  pub some_later : CanAdd h n later
  pub outs : ℕ
  pub early : ℕ
  pub puts : ℕ
  pub takes : ℕ
  pub all_outs : Exactly outs (TookBefore h n dequeue)
  pub all_early : Exactly early (CanAddBelow h n later)
  pub all_puts : Exactly puts (PutsBefore h later)
  pub all_takes : Exactly takes (MayTakeAhead h dequeue)
  pub in_turn : early ≤ outs
  pub fewer : takes < puts

-- the set has the item behind the ok operation
abbrev pub Had : List Event → Item → ℕ → Type 0
Had h n at = Returned h (λ call reply. Has call reply n) at

-- the ok operation found the set with the item and without the other one
abbrev pub Told : List Event → Item → Item → ℕ → Type 0
Told h n m at = Returned h (λ call reply. Has call reply n × Lacks call reply m) at

-- the read has an item that no operation adds
abbrev pub IsUnadded : List Event → ℕ → Item → Type 0
IsUnadded h read n = Had h n read × ((at : ℕ) → CanAdd h n at → ⊥)

-- the set had the item before the read, which lacks it
abbrev pub IsLost : List Event → ℕ → ℕ → Item → Type 0
IsLost h earlier read n = Had h n earlier × Returned h (λ call reply. Lacks call reply n) read × IsBefore h earlier read

-- the one read has the one item and lacks the other, and the other read has that and lacks the one
abbrev pub AreSplit : List Event → ℕ → ℕ → Item → Item → Type 0
AreSplit h first second n m = Told h n m first × Told h m n second

-- the set had the item before the other one was added, and the read has that and lacks the item
pub record IsLate (h : List Event) (earlier add read : ℕ) (n other : Item) : Type 0 where
  pub had : Had h n earlier
  pub some_later : CanAdd h other add
  pub all_later : (at : ℕ) → CanAdd h other at → IsBefore h earlier at
  pub told : Told h other n read

-- the operation is ok, and its call is of this sort; or it counts, and its call is
abbrev pub DidCall : List Event → Calls → ℕ → Type 0
DidCall h calls at = Returned h (λ call reply. IsOfCalls calls call) at

abbrev pub CanCall : List Event → Calls → ℕ → Type 0
CanCall h calls at = Counts h (λ call. IsOfCalls calls call) at

-- of two calls of a sort the one is before the other, and each that must stand between them is before both
pub record IsTwiceIn (h : List Event) (calls between : Calls) (first second : ℕ) : Type 0 where
  pub one : DidCall h calls first
  pub two : DidCall h calls second
  pub in_time : IsBefore h first second
  pub none_between : (at : ℕ) → CanCall h between at → IsBefore h at first

-- the lock was acquired twice and can't have been released between, or released twice and can't have been acquired between
abbrev pub IsTwice : List Event → ℕ → ℕ → Type 0
IsTwice h first second = IsTwiceIn h Acquires Releases first second ⊎ IsTwiceIn h Releases Acquires first second

-- the lock was released more often than it can have been acquired, or acquired more than once oftener than it can have been released
pub record IsCounted (h : List Event) : Type 0 where
  pub can_acquire : ℕ
  pub can_release : ℕ
  pub acquired : ℕ
  pub released : ℕ
  pub all_can_acquire : Exactly can_acquire (CanCall h Acquires)
  pub all_can_release : Exactly can_release (CanCall h Releases)
  pub all_acquired : Exactly acquired (DidCall h Acquires)
  pub all_released : Exactly released (DidCall h Releases)
  pub more : (can_acquire < released) ⊎ (can_release + 1 < acquired)

-- the operation is ok, its call is of this sort, it was called at the one place or behind it, and had returned before the other
abbrev pub DidWithin : List Event → Calls → ℕ → ℕ → ℕ → Type 0
DidWithin h calls from to at = DidCall h calls at × (from ≤ at) × IsBefore h at to

-- it counts, was called before the other place, and hadn't returned before the one
abbrev pub CanWithin : List Event → Calls → ℕ → ℕ → ℕ → Type 0
CanWithin h calls from to at = CanCall h calls at × (at < to) × (IsBefore h at from → ⊥)

-- between the two places the lock had the one call more often than it can have had the other, and more than so many times oftener
pub record IsMoreWithin (h : List Event) (calls other : Calls) (from to spare : ℕ) : Type 0 where
  pub did : ℕ
  pub can : ℕ
  pub all_did : Exactly did (DidWithin h calls from to)
  pub all_can : Exactly can (CanWithin h other from to)
  pub more : can + spare < did

-- the lock begins free, so from the beginning on it isn't released once oftener
abbrev pub spare_release : ℕ → ℕ
spare_release from = if nat_eq from 0 then 0 else 1

-- between the two places the lock was acquired more than once oftener than it can have been released, or released oftener than it can have been acquired
abbrev pub IsWithin : List Event → Calls → ℕ → ℕ → Type 0
IsWithin h Acquires from to = IsMoreWithin h Acquires Releases from to 1
IsWithin h Releases from to = IsMoreWithin h Releases Acquires from to (spare_release from)
IsWithin h _ from to = ⊥

-- what certifies that a register, a queue, ordered or not, a set, or a lock has no legal order
abbrev pub CertifiesRegister : List Event → Certificate → Type 0
CertifiesRegister h (Form.Shape at) = Returned h (λ call reply. Gives Sorted.Members call reply) at
CertifiesRegister h (Form.Unwritten at v) = IsUnwritten h at v
CertifiesRegister h (Form.Overwritten at v) = IsOverwritten h at v
CertifiesRegister h (Form.Stale at v over w) = IsStale h at v over w
CertifiesRegister h (Form.Crossed v w early late back) = AreCrossed h v w early late back
CertifiesRegister h (Form.Spent v) = IsSpent h v
CertifiesRegister h _ = ⊥

abbrev pub CertifiesBag : List Event → Certificate → Type 0
CertifiesBag h (Form.Taken n) = IsTaken h n
CertifiesBag h (Form.Inside enqueue dequeue n) = IsInside h enqueue dequeue n
CertifiesBag h (Form.Remaining dequeue) = IsRemaining h dequeue
CertifiesBag h (Form.Surplus dequeue ns) = IsSurplus h dequeue ns
CertifiesBag h _ = ⊥

abbrev pub CertifiesFifo : List Event → Certificate → Type 0
CertifiesFifo h (Form.Passed enqueue later dequeue n other) = IsPassed h enqueue later dequeue n other
CertifiesFifo h (Form.Preceded later dequeue n) = IsPreceded h later dequeue n
CertifiesFifo h c = CertifiesBag h c

abbrev pub CertifiesSet : List Event → Certificate → Type 0
CertifiesSet h (Form.Shape at) = Returned h (λ call reply. Gives Sorted.Value call reply) at
CertifiesSet h (Form.Unadded read n) = IsUnadded h read n
CertifiesSet h (Form.Lost earlier read n) = IsLost h earlier read n
CertifiesSet h (Form.Split first second n m) = AreSplit h first second n m
CertifiesSet h (Form.Late earlier add read n other) = IsLate h earlier add read n other
CertifiesSet h _ = ⊥

abbrev pub CertifiesMutex : List Event → Certificate → Type 0
CertifiesMutex h (Form.Twice first second) = IsTwice h first second
CertifiesMutex h Form.Counted = IsCounted h
CertifiesMutex h (Form.Within calls from to) = IsWithin h calls from to
CertifiesMutex h _ = ⊥

-- the form holds of the operations that the certificate names, for an object of the kind
abbrev pub Certifies : List Event → Kind → Certificate → Type 0
Certifies h Register c = CertifiesRegister h c
Certifies h CasRegister c = CertifiesRegister h c
Certifies h Fifo c = CertifiesFifo h c
Certifies h Bag c = CertifiesBag h c
Certifies h Set c = CertifiesSet h c
Certifies h Mutex c = CertifiesMutex h c
