-- Total operations (Herlihy and Wing 1990, section 2): calls that an object takes wherever it stands, and replies that show which calls it took.
use Rattle.std.specs.Prelude.{◌≡◌, ◌≢◌, ◌++◌, ◌∷◌, List, [], Bool, true, false, Contains}
use Rattle.std.specs.List.{list_any}
use Rattle.std.proofs.Common.{refl, sym, ap, subst, true≢false, ◌∙◌, ⊎_elim}
use Rattle.std.proofs.lemmas.List.Folds.{Any-from_list_any, list_any-from_Any}
use Rattle.lin_events.specs.declared.items.Item.{Item}
use Rattle.lin_events.specs.Sameness.{Decides-item_eq}
use Rattle.lin_events.specs.Items.{item_cmp, item_eq}
use Rattle.lin_events.specs.lemmas.Rising.{contains_first, with_has, with_keeps, with_adds_none}
use Rattle.lin_events.specs.declared.calls.Call.{Call}
use Rattle.lin_events.specs.declared.calls.Call.TheVariants.{Read, Enqueue, Dequeue, Add}
use Rattle.lin_events.specs.declared.calls.Reply.{Reply}
use Rattle.lin_events.specs.declared.calls.Val.TheVariants.{Nil, Item as Held}
use Rattle.lin_events.specs.declared.calls.Reply.TheVariants as Replied
use Rattle.lin_objects.specs.declared.kinds.Kind.{Kind}
use Rattle.lin_objects.specs.declared.kinds.Kind.TheVariants.{Fifo, Set, Bag}
use Rattle.lin_objects.specs.declared.states.State.{State}
use Rattle.lin_objects.specs.declared.states.State.TheVariants.{Queue, Members}
use Rattle.lin_objects.specs.declared.states.State.TheVariants.{Bag as Bagged}
use Rattle.lin_objects.specs.Bags.{bag_of, without_one}
use Rattle.lin_objects.specs.Steps.{Step, start}
use Rattle.lin_lists.specs.Sets.{with_member}

-- steps lead from the one state to the other
pub data Reaches {S : Type 0} (step : S → Call → S → Reply → Type 0) : S → S → Type 0 where
  stays : {state : S} → Reaches step state state
  goes : {state next last : S} {call : Call} {reply : Reply} → step state call next reply → Reaches step next last → Reaches step state last

-- in each state that the object comes to it takes these calls
abbrev pub AreTotal : {S : Type 0} → S → (S → Call → S → Reply → Type 0) → (Call → Bool) → Type 0
AreTotal {S} start step total = (state : S) → Reaches step start state → (call : Call) → total call ≡ true → (next : S) × (reply : Reply) × step state call next reply

-- the calls that are known to be total: those of queues, ordered or not, and sets
abbrev pub total : Kind → Call → Bool
total Fifo (Enqueue x) = true
total Fifo Dequeue = true
total Set (Add x) = true
total Bag (Enqueue x) = true
total Bag Dequeue = true
total Set Read = true
total _ _ = false

-- What replies to the one call show of the other: once that was taken each of them shows it; where the state hasn't taken it, none does; and one that
-- doesn't is followed by others that don't until it is taken.
pub record IsShown {S : Type 0} (step : S → Call → S → Reply → Type 0) (shows : Reply → Bool) (has : S → Bool) (reads call : Call) : Type 0 where
  pub taken : (state next last end : S) (reply told : Reply) → step state call next reply → Reaches step next last → step last reads end told → shows told ≡ true
  pub absent : (state end : S) (told : Reply) → has state ≡ false → step state reads end told → shows told ≡ false
  pub other : (state end next last : S) (before reply told : Reply) (between : Call) → between ≢ call → step state reads end before → shows before ≡ false → step state between next reply
      → step next reads last told → shows told ≡ false

-- the item is one of these
abbrev pub has_item : Item → List Item → Bool
has_item x members = list_any (λ y. item_eq y x) members

-- whether the reply shows that the call was taken
abbrev pub shows : Call → Reply → Bool
shows (Add x) (Replied.Members members) = has_item x members
shows _ _ = false

-- whether the state has taken it
abbrev pub has_taken : State → Call → Bool
has_taken (Members members) (Add x) = has_item x members
has_taken _ _ = false

-- which calls are known to have replies that show the other: the reads of a set, its adds
abbrev pub shown_by : Kind → Call → Call → Bool
shown_by Set (Add x) Read = true
shown_by _ _ _ = false

-- a queue stays a queue, a set a set, and a bag a bag
abbrev IsQueue : State → Type 0
IsQueue (Queue q) = Unit {0}
IsQueue _ = ⊥

abbrev IsSet : State → Type 0
IsSet (Members s) = Unit {0}
IsSet _ = ⊥

abbrev IsBag : State → Type 0
IsBag (Bagged q) = Unit {0}
IsBag _ = ⊥

queue_step : (state next : State) (call : Call) (reply : Reply) → Step Fifo state call next reply → IsQueue next
queue_step (Queue q) next (Enqueue x) reply s = subst IsQueue (sym s.0) tt
queue_step (Queue (x ∷ q)) next Dequeue reply s = subst IsQueue (sym s.0) tt
queue_step (Queue []) next Dequeue reply s = subst IsQueue (sym s.0) tt
queue_step _ next _ reply s = absurd s

set_step : (state next : State) (call : Call) (reply : Reply) → Step Set state call next reply → IsSet next
set_step (Members m) next (Add x) reply s = subst IsSet (sym s.0) tt
set_step (Members m) next Read reply s = subst IsSet (sym s.0) tt
set_step _ next _ reply s = absurd s

bag_step : (state next : State) (call : Call) (reply : Reply) → Step Bag state call next reply → IsBag next
bag_step (Bagged q) next (Enqueue x) reply s = subst IsBag (sym s.0) tt
bag_step (Bagged (x ∷ q)) next Dequeue reply s = subst IsBag (sym s.2) tt
bag_step (Bagged []) next Dequeue reply s = subst IsBag (sym s.0) tt
bag_step _ next _ reply s = absurd s

queues_stay : (state last : State) → IsQueue state → Reaches (Step Fifo) state last → IsQueue last
queues_stay state last is stays = is
queues_stay state last is (goes {next} {call} {reply} s way) = queues_stay next last (queue_step state next call reply s) way

sets_stay : (state last : State) → IsSet state → Reaches (Step Set) state last → IsSet last
sets_stay state last is stays = is
sets_stay state last is (goes {next} {call} {reply} s way) = sets_stay next last (set_step state next call reply s) way

bags_stay : (state last : State) → IsBag state → Reaches (Step Bag) state last → IsBag last
bags_stay state last is stays = is
bags_stay state last is (goes {next} {call} {reply} s way) = bags_stay next last (bag_step state next call reply s) way

queue_takes : (state : State) → IsQueue state → (call : Call) → total Fifo call ≡ true → (next : State) × (reply : Reply) × Step Fifo state call next reply
queue_takes (Queue q) is (Enqueue x) t = (Queue (q ++ x ∷ []), Replied.Done, (refl, refl))
queue_takes (Queue (x ∷ q)) is Dequeue t = (Queue q, Replied.Value (Held x), (refl, refl))
queue_takes (Queue []) is Dequeue t = (Queue [], Replied.Value Nil, (refl, refl))
queue_takes (Queue q) is _ t = absurd (true≢false (sym t))
queue_takes _ is call t = absurd is

set_takes : (state : State) → IsSet state → (call : Call) → total Set call ≡ true → (next : State) × (reply : Reply) × Step Set state call next reply
set_takes (Members m) is (Add x) t = (Members (with_member item_cmp x m), Replied.Done, (refl, refl))
set_takes (Members m) is Read t = (Members m, Replied.Members m, (refl, refl))
set_takes (Members m) is _ t = absurd (true≢false (sym t))
set_takes _ is call t = absurd is

bag_takes : (state : State) → IsBag state → (call : Call) → total Bag call ≡ true → (next : State) × (reply : Reply) × Step Bag state call next reply
bag_takes (Bagged q) is (Enqueue x) t = (Bagged (bag_of (x ∷ q)), Replied.Done, (refl, refl))
bag_takes (Bagged (x ∷ q)) is Dequeue t = (Bagged (without_one x (x ∷ q)), Replied.Value (Held x), (x, contains_first x q, refl, refl))
bag_takes (Bagged []) is Dequeue t = (Bagged [], Replied.Value Nil, (refl, refl))
bag_takes (Bagged q) is _ t = absurd (true≢false (sym t))
bag_takes _ is call t = absurd is

-- these calls of queues, sets and bags are total
pub totals_are_taken : (kind : Kind) → AreTotal (start kind) (Step kind) (total kind)
totals_are_taken Fifo state way call t = queue_takes state (queues_stay (Queue []) state tt way) call t
totals_are_taken Bag state way call t = bag_takes state (bags_stay (Bagged []) state tt way) call t
totals_are_taken Set state way call t = set_takes state (sets_stay (Members []) state tt way) call t
totals_are_taken _ state way call t = absurd (true≢false (sym t))

-- the item is in the set
abbrev InSet : State → Item → Type 0
InSet (Members s) n = Contains s n
InSet state n = ⊥

kept : (state next : State) (call : Call) (reply : Reply) (n : Item) → Step Set state call next reply → InSet state n → InSet next n
kept (Members s) next (Add x) reply n step has = subst (λ t. InSet t n) (sym step.0) (with_keeps x n s has)
kept (Members s) next Read reply n step has = subst (λ t. InSet t n) (sym step.0) has
kept (Members s) next _ reply n step has = absurd step
kept _ next call reply n step has = absurd has

keeps : (state last : State) (n : Item) → Reaches (Step Set) state last → InSet state n → InSet last n
keeps state last n stays has = has
keeps state last n (goes {next} {call} {reply} step way) has = keeps next last n way (kept state next call reply n step has)

added : (state next : State) (n : Item) (reply : Reply) → Step Set state (Add n) next reply → InSet next n
added (Members s) next n reply step = subst (λ t. InSet t n) (sym step.0) (with_has n s)
added _ next n reply step = absurd step

item_there : (n : Item) (s : List Item) → Contains s n → has_item n s ≡ true
item_there n s has = list_any-from_Any (λ y. item_eq y n) s (has.0, n, has.1, has.2, (Decides-item_eq n n).1 refl)

item_not : (n : Item) (s : List Item) → (Contains s n → ⊥) → has_item n s ≡ false
item_not n s none = by (has_item n s) refl
  where
    by : (b : Bool) → has_item n s ≡ b → has_item n s ≡ false
    by false e = e
    by true e = let a = Any-from_list_any (λ y. item_eq y n) s e in absurd (none (subst (Contains s) ((Decides-item_eq a.1 n).0 a.4) (a.0, a.2, a.3)))

-- a read shows what is in the set
read_shows : (state end : State) (n : Item) (told : Reply) → Step Set state Read end told → InSet state n → shows (Add n) told ≡ true
read_shows (Members s) end n told step has = subst (λ r. shows (Add n) r ≡ true) (sym step.1) (item_there n s has)
read_shows _ end n told step has = absurd has

-- and nothing else
read_hides : (state end next last : State) (n : Item) (before reply told : Reply) (between : Call) → between ≢ Add n → Step Set state Read end before → shows (Add n) before ≡ false
    → Step Set state between next reply → Step Set next Read last told → shows (Add n) told ≡ false
read_hides (Members s) end next last n before reply told (Add x) other first hidden step second =
    let then' : Step Set (Members (with_member item_cmp x s)) Read last told = subst (λ m. Step Set m Read last told) step.0 second in
    subst (λ r. shows (Add n) r ≡ false) (sym then'.1) (item_not n (with_member item_cmp x s) (λ has. ⊎_elim
    (λ (e : n ≡ x). other (ap Add (sym e)))
    (λ (h : Contains s n). true≢false (sym (item_there n s h) ∙ subst (λ r. shows (Add n) r ≡ false) first.1 hidden))
    (with_adds_none x n s has)))
read_hides (Members s) end next last n before reply told Read other first hidden step second =
    let then' : Step Set (Members s) Read last told = subst (λ m. Step Set m Read last told) step.0 second in
    subst (λ r. shows (Add n) r ≡ false) (first.1 ∙ sym then'.1) hidden
read_hides (Members s) end next last n before reply told _ other first hidden step second = absurd step
read_hides _ end next last n before reply told between other first hidden step second = absurd first

read_lacks : (state end : State) (n : Item) (told : Reply) → has_taken state (Add n) ≡ false → Step Set state Read end told → shows (Add n) told ≡ false
read_lacks (Members s) end n told none step = subst (λ r. shows (Add n) r ≡ false) (sym step.1) none
read_lacks _ end n told none step = absurd step

-- the reads of a set show its adds
pub reads_show_adds : (kind : Kind) (call reads : Call) → shown_by kind call reads ≡ true → IsShown (Step kind) (shows call) (λ state. has_taken state call) reads call
reads_show_adds Set (Add n) Read is = record {
  taken = λ state next last end reply told step way second. read_shows last end n told second (keeps next last n way (added state next n reply step));
  absent = λ state end told none second. read_lacks state end n told none second;
  other = λ state end next last before reply told between differ first hidden step second. read_hides state end next last n before reply told between differ first hidden step second;
}
reads_show_adds _ _ _ is = absurd (true≢false (sym is))
