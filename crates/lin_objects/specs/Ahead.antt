-- Calls that go first: what can be taken ahead of one of them can be taken behind it.
use Rattle.std.specs.Prelude.{◌≡◌, ◌≤◌, ◌||◌, ℕ, Bool, true, false, nat_eq, nat_le, nat_lt, List, [], ◌∷◌, length, count_by, IsPermutation}
use Rattle.lin_events.specs.Items.{item_eq}
use Rattle.lin_events.specs.declared.calls.Call.{Call}
use Rattle.lin_events.specs.declared.calls.Call.TheVariants.{Read, Add, Enqueue, Dequeue}
use Rattle.lin_events.specs.declared.calls.Reply.{Reply}
use Rattle.lin_events.specs.declared.calls.Reply.TheVariants.{Value}
use Rattle.lin_events.specs.declared.calls.Val.TheVariants.{Nil, Item as Held}
use Rattle.lin_objects.specs.declared.kinds.Kind.{Kind}
use Rattle.lin_objects.specs.declared.kinds.Kind.TheVariants.{Set, Bag}
use Rattle.lin_objects.specs.declared.states.State.{State}
use Rattle.lin_objects.specs.declared.states.State.TheVariants.{Bag as Bagged}
use Rattle.lin_objects.specs.Total.{has_item}

-- calls with their replies, each of a process, lead one after the other from the one state to the other
abbrev pub Takes : {S : Type 0} → (S → Call → S → Reply → Type 0) → S → List (ℕ × Call × Reply) → S → Type 0
Takes {S} step state [] last = state ≡ last
Takes {S} step state (x ∷ xs) last = (next : S) × step state x.1 next x.2 × Takes step next xs last

-- the call can be taken at once with its reply, and behind it the others in some order, each with its reply, to this state
abbrev pub IsFirst : {S : Type 0} → (S → Call → S → Reply → Type 0) → S → Call → Reply → List (ℕ × Call × Reply) → S → Type 0
IsFirst {S} step state call reply others last = (first : S) × step state call first reply × (again : List (ℕ × Call × Reply)) × IsPermutation others again × Takes step first again last

-- so it is wherever others, at most so many of which hinder it, can be taken and then the call
abbrev pub IsAhead : {S : Type 0} → (S → Call → S → Reply → Type 0) → (Call → Bool) → S → Call → Reply → ℕ → Type 0
IsAhead {S} step hinders state call reply many = (others : List (ℕ × Call × Reply)) (mid last : S) → count_by (λ x. hinders x.1) others ≤ many → Takes step state others mid → step mid call last reply
    → IsFirst step state call reply others last

-- calls that are said to go first do
abbrev pub AreAhead : {S : Type 0} → (S → Call → S → Reply → Type 0) → (Call → Reply → Call → Bool) → (S → Call → Reply → ℕ → Bool) → Type 0
AreAhead {S} step hinders goes_first = (state : S) (call : Call) (reply : Reply) (many : ℕ) → goes_first state call reply many ≡ true → IsAhead step (hinders call reply) state call reply many

-- the call with the reply is hindered by the other call: all hinder one another, but for adds to a set, its reads, and what doesn't
-- matter to an unordered queue. There enqueues are hindered by dequeues, which might find nothing without them; dequeues that found a
-- item by enqueues of it; and dequeues that found nothing by other dequeues
abbrev pub hinders : Kind → Call → Reply → Call → Bool
hinders Set (Add x) reply (Add y) = false
hinders Set Read reply Read = false
hinders Bag (Enqueue x) reply (Enqueue y) = false
hinders Bag Dequeue (Value (Held x)) (Enqueue y) = item_eq x y
hinders Bag Dequeue (Value (Held x)) Dequeue = false
hinders Bag Dequeue (Value Nil) (Enqueue y) = false
hinders _ _ _ _ = true

-- whether the call goes first in the state, with the reply, where so many hinder it: where none does; and of an unordered queue enqueues
-- where an item is inside for each of them, dequeues where what they found is inside, and those that found nothing where nothing is, or
-- where others can't take out all that is
abbrev pub goes_first : Kind → State → Call → Reply → ℕ → Bool
goes_first Bag (Bagged q) (Enqueue x) reply many = nat_le many (length q)
goes_first Bag (Bagged q) Dequeue (Value (Held x)) many = nat_eq many 0 || has_item x q
goes_first Bag (Bagged q) Dequeue (Value Nil) many = nat_eq (length q) 0 || nat_lt many (length q)
goes_first _ _ _ _ many = nat_eq many 0
