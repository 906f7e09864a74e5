-- What operations do, in the words of which certificates are made.
use Rattle.std.specs.Prelude.{◌≡◌, ◌≢◌, ◌⊎◌, ◌<◌, ◌≤◌, ℕ, List, AllPairs, Contains, length, ◌↔◌}
use Rattle.lin_events.specs.declared.items.Item.{Item}
use Rattle.lin_events.specs.declared.calls.Call.{Call}
use Rattle.lin_events.specs.declared.calls.Call.TheVariants.{Read, Cas, Dequeue, Acquire, Release}
use Rattle.lin_events.specs.declared.calls.Reply.{Reply}
use Rattle.lin_events.specs.declared.calls.Reply.TheVariants as Replied
use Rattle.lin_events.specs.declared.calls.Val.{Val}
use Rattle.lin_events.specs.declared.calls.Val.TheVariants.{Nil}
use Rattle.lin_events.specs.declared.events.Event.{Event}
use Rattle.lin_events.specs.Operations.{IsOk, IsFailed}
use Rattle.lin_order.specs.Orders.{IsBefore, IsCall}
use Rattle.lin_certificates.specs.Adding.{Adds}
use Rattle.lin_certificates.specs.Conflicts.{Leaves}
use Rattle.lin_certificates.specs.Numbers.{OfOne}
use Rattle.lin_certificates.specs.QueueConflicts.{Takes}
use Rattle.lin_certificates.specs.SetConflicts.{Has, Lacks}
use Rattle.lin_certificates.specs.declared.words.Calls.{Calls}
use Rattle.lin_certificates.specs.declared.words.Calls.TheVariants as Called
use Rattle.lin_certificates.specs.declared.words.Answers.{Answers}
use Rattle.lin_certificates.specs.declared.words.Answers.TheVariants as Answered
use Rattle.lin_certificates.specs.declared.words.ReadSort.{ReadSort}
use Rattle.lin_certificates.specs.declared.words.ReadSort.TheVariants as Sorted
use Rattle.lin_certificates.specs.declared.words.Which.{Which}
use Rattle.lin_certificates.specs.declared.words.Which.TheVariants as Chosen

-- the register has to hold the value for the call to get this reply
abbrev pub Needs : Call → Reply → Val → Type 0
Needs Read (Replied.Value v) w = v ≡ w
Needs (Cas from to) reply w = from ≡ w
Needs _ _ w = ⊥

-- the call leaves some value in the register
abbrev pub Updates : Call → Type 0
Updates call = (v : Val) × Leaves call v

-- the call takes the register from the value to another one
abbrev pub Spends : Call → Val → Type 0
Spends (Cas from to) v = (from ≡ v) × (to ≢ v)
Spends _ v = ⊥

-- the call adds some item
abbrev pub AddsSome : Call → Type 0
AddsSome call = (n : Item) × Adds call n

-- the call is of this sort
abbrev pub IsOfCalls : Calls → Call → Type 0
IsOfCalls (Called.Leaves v) call = Leaves call v
IsOfCalls Called.Updates call = Updates call
IsOfCalls (Called.Spends v) call = Spends call v
IsOfCalls (Called.Adds n) call = Adds call n
IsOfCalls Called.AddsSome call = AddsSome call
IsOfCalls Called.Dequeues call = call ≡ Dequeue
IsOfCalls Called.Acquires call = call ≡ Acquire
IsOfCalls Called.Releases call = call ≡ Release

-- the call reads, and the reply is of this sort
abbrev pub Gives : ReadSort → Call → Reply → Type 0
Gives Sorted.Value call reply = (call ≡ Read) × ((v : Val) × (reply ≡ Replied.Value v))
Gives Sorted.Members call reply = (call ≡ Read) × ((s : List Item) × (reply ≡ Replied.Members s))

-- the call with this reply is of this sort
abbrev pub IsOfAnswers : Answers → Call → Reply → Type 0
IsOfAnswers (Answered.Called calls) call reply = IsOfCalls calls call
IsOfAnswers (Answered.Needs v) call reply = Needs call reply v
IsOfAnswers (Answered.Touches v) call reply = Needs call reply v ⊎ Leaves call v
IsOfAnswers (Answered.Takes n) call reply = Takes call reply n
IsOfAnswers Answered.FindsNothing call reply = (call ≡ Dequeue) × (reply ≡ Replied.Value Nil)
IsOfAnswers (Answered.Has n) call reply = Has call reply n
IsOfAnswers (Answered.Lacks n) call reply = Lacks call reply n
IsOfAnswers (Answered.Tells n m) call reply = Has call reply n × Lacks call reply m
IsOfAnswers (Answered.Gives sort) call reply = Gives sort call reply

-- the operation counts, for it isn't failed, and its call is such
abbrev pub Counts : List Event → (Call → Type 0) → ℕ → Type 0
Counts h P at = (call : Call) × IsCall h at call × (IsFailed h at → ⊥) × P call

-- the operation is ok, and its call with its reply is such
abbrev pub Returned : List Event → (Call → Reply → Type 0) → ℕ → Type 0
Returned h P at = (call : Call) × (end : ℕ) × (reply : Reply) × IsCall h at call × IsOk h at end reply × P call reply

-- the operation is open, for it is neither ok nor failed, and its call is such
abbrev pub StaysOpen : List Event → (Call → Type 0) → ℕ → Type 0
StaysOpen h P at = (call : Call) × IsCall h at call × ((end : ℕ) (reply : Reply) → IsOk h at end reply → ⊥) × (IsFailed h at → ⊥) × P call

-- the dequeue, another one, may have taken something out ahead of the one
abbrev pub MayTakeAhead : List Event → ℕ → ℕ → Type 0
MayTakeAhead h dequeue at = (at ≢ dequeue) × Counts h (λ call. call ≡ Dequeue) at
    × (Returned h (λ call reply. (call ≡ Dequeue) × (reply ≡ Replied.Value Nil)) at → ⊥) × (IsBefore h dequeue at → ⊥)

-- the dequeue isn't known to have taken out anything but one of the items
abbrev pub MayTakeOne : List Event → List Item → ℕ → Type 0
MayTakeOne h ns at = (end : ℕ) (reply : Reply) → IsOk h at end reply → OfOne ns (Takes Dequeue reply)

-- the operation puts one of the items in, or is such a dequeue
abbrev pub Concerns : List Event → List Item → ℕ → Type 0
Concerns h ns at = (call : Call) × IsCall h at call × (OfOne ns (Adds call) ⊎ ((call ≡ Dequeue) × MayTakeOne h ns at))

-- the operation is one of these
abbrev pub IsOfWhich : List Event → Which → ℕ → Type 0
IsOfWhich h (Chosen.Counts calls) at = Counts h (IsOfCalls calls) at
IsOfWhich h (Chosen.CountsBut calls but) at = (at ≢ but) × Counts h (IsOfCalls calls) at
IsOfWhich h (Chosen.CountsBelow calls place) at = Counts h (IsOfCalls calls) at × (at < place)
IsOfWhich h (Chosen.Returned answers) at = Returned h (IsOfAnswers answers) at
IsOfWhich h (Chosen.ReturnedBut answers but) at = (at ≢ but) × Returned h (IsOfAnswers answers) at
IsOfWhich h (Chosen.ReturnedBefore answers place) at = Returned h (IsOfAnswers answers) at × IsBefore h at place
IsOfWhich h (Chosen.ReturnedWithin answers from to) at = Returned h (IsOfAnswers answers) at × (from ≤ at) × IsBefore h at to
IsOfWhich h (Chosen.CountsWithin calls from to) at = Counts h (IsOfCalls calls) at × (at < to) × (IsBefore h at from → ⊥)
IsOfWhich h (Chosen.OpenBut calls but) at = (at ≢ but) × StaysOpen h (IsOfCalls calls) at
IsOfWhich h (Chosen.TakesAhead dequeue) at = MayTakeAhead h dequeue at

-- just so many operations are such
abbrev pub Exactly : ℕ → (ℕ → Type 0) → Type 0
Exactly k P = (places : List ℕ) × (length places ≡ k) × AllPairs ◌≢◌ places × ((at : ℕ) → P at ↔ Contains places at)

-- it is such, and none behind it is
abbrev pub IsLastOf : (ℕ → Type 0) → ℕ → Type 0
IsLastOf P last = P last × ((at : ℕ) → P at → at ≤ last)
