-- The sequential objects: where each kind begins, the functions that it has, and the steps that it takes.
use Rattle.std.specs.Prelude.{◌≡◌, Bool, true, false, [], ◌∷◌, ◌++◌, Contains}
use Rattle.lin_events.specs.declared.items.Item.{Item}
use Rattle.lin_events.specs.Items.{item_cmp}
use Rattle.lin_events.specs.declared.calls.Name.{Name}
use Rattle.lin_events.specs.declared.calls.Name.TheVariants as Named
use Rattle.lin_events.specs.declared.calls.Val.TheVariants.{Nil, Item as Held}
use Rattle.lin_events.specs.declared.calls.Call.{Call}
use Rattle.lin_events.specs.declared.calls.Call.TheVariants.{Read, Write, Cas, Enqueue, Dequeue, Add, Acquire, Release}
use Rattle.lin_events.specs.declared.calls.Reply.{Reply}
use Rattle.lin_events.specs.declared.calls.Reply.TheVariants as Replied
use Rattle.lin_lists.specs.Sets.{with_member}
use Rattle.lin_objects.specs.declared.kinds.Kind.{Kind}
use Rattle.lin_objects.specs.declared.kinds.Kind.TheVariants.{Register, CasRegister, Fifo, Set, Mutex, Bag}
use Rattle.lin_objects.specs.declared.states.State.{State}
use Rattle.lin_objects.specs.declared.states.State.TheVariants.{Value, Queue, Members, Held as Locked}
use Rattle.lin_objects.specs.declared.states.State.TheVariants.{Bag as Bagged}
use Rattle.lin_objects.specs.Bags.{bag_of, without_one}

-- where an object of the kind begins
abbrev pub start : Kind → State
start Register = Value Nil
start CasRegister = Value Nil
start Fifo = Queue []
start Set = Members []
start Mutex = Locked false
start Bag = Bagged []

-- the functions that objects of the kind have
abbrev pub allows : Kind → Name → Bool
allows Register Named.Read = true
allows Register Named.Write = true
allows CasRegister Named.Read = true
allows CasRegister Named.Write = true
allows CasRegister Named.Cas = true
allows Fifo Named.Enqueue = true
allows Fifo Named.Dequeue = true
allows Set Named.Add = true
allows Set Named.Read = true
allows Mutex Named.Acquire = true
allows Mutex Named.Release = true
allows Bag Named.Enqueue = true
allows Bag Named.Dequeue = true
allows _ _ = false

-- an object of the kind in the state may take the call, go to the next state and give the reply
abbrev pub Step : Kind → State → Call → State → Reply → Type 0
Step Register (Value v) Read next reply = (next ≡ Value v) × (reply ≡ Replied.Value v)
Step Register (Value v) (Write w) next reply = (next ≡ Value w) × (reply ≡ Replied.Done)
Step CasRegister (Value v) Read next reply = (next ≡ Value v) × (reply ≡ Replied.Value v)
Step CasRegister (Value v) (Write w) next reply = (next ≡ Value w) × (reply ≡ Replied.Done)
Step CasRegister (Value v) (Cas from to) next reply = (v ≡ from) × (next ≡ Value to) × (reply ≡ Replied.Done)
Step Fifo (Queue q) (Enqueue x) next reply = (next ≡ Queue (q ++ x ∷ [])) × (reply ≡ Replied.Done)
Step Fifo (Queue (x ∷ q)) Dequeue next reply = (next ≡ Queue q) × (reply ≡ Replied.Value (Held x))
Step Fifo (Queue []) Dequeue next reply = (next ≡ Queue []) × (reply ≡ Replied.Value Nil)
Step Set (Members s) (Add x) next reply = (next ≡ Members (with_member item_cmp x s)) × (reply ≡ Replied.Done)
Step Set (Members s) Read next reply = (next ≡ Members s) × (reply ≡ Replied.Members s)
Step Mutex (Locked false) Acquire next reply = (next ≡ Locked true) × (reply ≡ Replied.Done)
Step Mutex (Locked true) Release next reply = (next ≡ Locked false) × (reply ≡ Replied.Done)
Step Bag (Bagged q) (Enqueue x) next reply = (next ≡ Bagged (bag_of (x ∷ q))) × (reply ≡ Replied.Done)
Step Bag (Bagged []) Dequeue next reply = (next ≡ Bagged []) × (reply ≡ Replied.Value Nil)
Step Bag (Bagged (x ∷ q)) Dequeue next reply = (y : Item) × Contains (x ∷ q) y × (next ≡ Bagged (without_one y (x ∷ q))) × (reply ≡ Replied.Value (Held y))
Step _ _ _ next reply = ⊥
