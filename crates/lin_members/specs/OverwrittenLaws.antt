-- What members lead to with overwritten updates, and what one more event makes of them. Each law holds for any object that is overwritten, given by
-- where it begins and which steps it takes, and for any calls that are treated as observers.
use Rattle.std.specs.Prelude.{◌≡◌, ◌⊎◌, ℕ, suc, ◌<◌, ◌≤◌, Bool, true, false, List, length, map, Contains}
use Rattle.lin_events.specs.declared.items.Item.{Item}
use Rattle.lin_events.specs.declared.calls.Call.{Call}
use Rattle.lin_events.specs.declared.calls.Name.{Name}
use Rattle.lin_events.specs.declared.calls.Reply.{Reply}
use Rattle.lin_events.specs.declared.events.Body.TheVariants.{Invoke, Ok, Fail, Info}
use Rattle.lin_events.specs.declared.events.Event.{Event}
use Rattle.lin_events.specs.Operations.{IsOpen}
use Rattle.lin_events.specs.WellFormed.{IsWellFormed}
use Rattle.lin_objects.specs.Observing.{IsObserving}
use Rattle.lin_objects.specs.Overwriting.{IsOverwriting}
use Rattle.lin_objects.specs.Total.{Reaches}
use Rattle.lin_order.specs.declared.placed.Placed.{Placed}
use Rattle.lin_order.specs.ConfigurationLaws.{with_event}
use Rattle.lin_order.specs.Configurations.{IsAdded, IsConfiguration}
use Rattle.lin_members.specs.declared.members.Path.{Path}
use Rattle.lin_members.specs.Exchanges.{AreAlike}
use Rattle.lin_members.specs.Members.{Member, DominatesAt, IsComplete, IsGiven, IsOnOffer, IsWatching}
use Rattle.lin_members.specs.Overwritten.{AllowsOverwritten, IsAbove, IsCompleteWith, IsEarlyGiven, IsEarlyUpdate, LeadsWith}
use Rattle.lin_members.specs.Rounds.{ahead, begin_round, put, IsTrailOf}

-- where others are above all members, they are complete as well
abbrev pub AboveLaw : {S : Type 0} → S → (S → Call → S → Reply → Type 0) → Type 0
AboveLaw {S} start step = (observes : Call → Bool) (h : List Event) (members others : List (Member S × Path))
    → ((m : Member S × Path) → Contains members m → (n : Member S × Path) × Contains others n × IsAbove observes h n m)
    → IsCompleteWith start step observes h members → IsCompleteWith start step observes h others

-- where no update can be ahead of the last one, this is as without overwritten updates
abbrev pub NoneOverwrittenLaw : {S : Type 0} → S → (S → Call → S → Reply → Type 0) → Type 0
NoneOverwrittenLaw {S} start step = (observes : Call → Bool) (h : List Event) (members : List (Member S × Path)) → ((m : Member S × Path) → Contains members m → m.1.until ≡ 0)
    → IsCompleteWith start step observes h members → IsComplete start step observes h (map (λ m. m.0) members)

-- and members that are complete alone are so with overwritten updates
abbrev pub CompleteAloneLaw : {S : Type 0} → S → (S → Call → S → Reply → Type 0) → Type 0
CompleteAloneLaw {S} start step = (observes : Call → Bool) (h : List Event) (members : List (Member S × Path))
    → IsComplete start step observes h (map (λ m. m.0) members) → IsCompleteWith start step observes h members

-- after an invocation: the same members, or such as are above them
abbrev pub InvocationWithLaw : {S : Type 0} → S → (S → Call → S → Reply → Type 0) → Type 0
InvocationWithLaw {S} start step = (observes : Call → Bool) → IsObserving step observes → (functions : Item → Name → Bool) (h : List Event) (event : Event) (call : Call) → event.body ≡ Invoke call
    → IsWellFormed functions (with_event h event) → (members : List (Member S × Path)) → IsCompleteWith start step observes h members → IsCompleteWith start step observes (with_event h event) members

-- after an info: such as are above the members now
abbrev pub InfoWithLaw : {S : Type 0} → S → (S → Call → S → Reply → Type 0) → Type 0
InfoWithLaw {S} start step = (observes : Call → Bool) (functions : Item → Name → Bool) (h : List Event) (event : Event) (name : Name) → event.body ≡ Info name
    → IsWellFormed functions (with_event h event) → (members others : List (Member S × Path))
    → ((m : Member S × Path) → Contains members m → (n : Member S × Path) × Contains others n × IsAbove observes (with_event h event) n m)
    → IsCompleteWith start step observes h members → IsCompleteWith start step observes (with_event h event) others

-- after a fail: such as are above the members that did not place the operation now
abbrev pub FailWithLaw : {S : Type 0} → S → (S → Call → S → Reply → Type 0) → Type 0
FailWithLaw {S} start step = (observes : Call → Bool) (functions : Item → Name → Bool) (h : List Event) (event : Event) (name : Name) → event.body ≡ Fail name
    → IsWellFormed functions (with_event h event) → (members others : List (Member S × Path))
    → ((m : Member S × Path) → Contains members m → ((reply : Reply) → Contains m.0.placed (event.process, reply) → ⊥) → (n : Member S × Path) × Contains others n × IsAbove observes (with_event h event) n m)
    → IsCompleteWith start step observes h members → IsCompleteWith start step observes (with_event h event) others

-- one of the members dominates the state with these placed and these offers, and allows updates that were called before the event at this position
abbrev pub IsHeldUntil : {S : Type 0} → (Call → Bool) → List Event → List (Member S × Path) → S → List (ℕ × Reply) → (ℕ × Reply → Type 0) → ℕ → Type 0
IsHeldUntil {S} observes h members state placed offers until = (n : Member S × Path) × Contains members n × DominatesAt observes h n.0 state placed offers × (until ≤ n.1.until)

-- without the pair, the member that placed it is held
abbrev pub IsTakenWith : {S : Type 0} → (Call → Bool) → List Event → ℕ → Reply → List (Member S × Path) → Member S × Path → Type 0
IsTakenWith observes h process reply others m = (without : List (ℕ × Reply)) → IsAdded process reply without m.0.placed → IsHeldUntil observes h others m.0.state without (IsOnOffer m.0) m.1.until

-- the object comes to the state of each member
abbrev pub AreReached : {S : Type 0} → S → (S → Call → S → Reply → Type 0) → List (Member S × Path) → Type 0
AreReached {S} start step members = (m : Member S × Path) → Contains members m → Reaches step start m.0.state

-- after the ok of an update. Members that placed it with this reply: without it. Of each other one: what it leads to placed last; and, where it was called
-- early enough, the same state with what the update gives to observers on offer, for where it is overwritten. No other update is placed
abbrev pub UpdateWithLaw : {S : Type 0} → S → (S → Call → S → Reply → Type 0) → Type 0
UpdateWithLaw {S} start step = (observes : Call → Bool) → IsOverwriting start step observes → (functions : Item → Name → Bool) (h : List Event) (event : Event) (name : Name) (reply : Reply) → event.body ≡ Ok name reply
    → IsWellFormed functions (with_event h event) → ((at : ℕ) (key : Item) (call : Call) → IsOpen h at event.process key call → observes call ≡ false) → (members others : List (Member S × Path)) → AreReached start step members
    → ((m : Member S × Path) → Contains members m → IsTakenWith observes (with_event h event) event.process reply others m)
    → ((m : Member S × Path) → Contains members m → ((other : Reply) → Contains m.0.placed (event.process, other) → ⊥) → (next : S) → IsEarlyUpdate step observes h m.1.until (event.process, reply) next
    → IsHeldUntil observes (with_event h event) others m.0.state m.0.placed (λ x. IsOnOffer m.0 x ⊎ IsEarlyGiven step h m.1.until next x) m.1.until)
    → ((m : Member S × Path) → Contains members m → ((other : Reply) → Contains m.0.placed (event.process, other) → ⊥) → (at : ℕ) (key : Item) (call : Call) (next : S) → IsOpen h at event.process key call
    → step m.0.state call next reply → IsHeldUntil observes (with_event h event) others next m.0.placed (λ x. IsOnOffer m.0 x ⊎ IsGiven step h m.0.state x) (length h))
    → IsCompleteWith start step observes h members → IsCompleteWith start step observes (with_event h event) others

-- the one pair is the other, or of a process that crashed in an operation with the same call
abbrev pub IsLike : List Event → ℕ × Reply → ℕ × Reply → Type 0
IsLike h x y = (x ≡ y) ⊎ (AreAlike h x.0 y.0 × (x.1 ≡ y.1))

-- one more is placed, like this one, that has no place yet and of which P holds; then the member is held
pub record IsHeldWith {S : Type 0} (observes : Call → Bool) (h g : List Event) (others : List (Member S × Path)) (placed : List (ℕ × Reply)) (x : ℕ × Reply) (P : ℕ × Reply → Type 0) (state : S) (offers : ℕ × Reply → Type 0) (until : ℕ) : Type 0 where
  pub y : ℕ × Reply
  pub like : IsLike h x y
  pub holds : P y
  pub absent : (other : Reply) → Contains placed (y.0, other) → ⊥
  pub held : (wider : List (ℕ × Reply)) → IsAdded y.0 y.1 placed wider → IsHeldUntil observes g others state wider offers until

-- what gives the observer its reply is placed in the member: an early update ahead of its last one, or any update behind that
pub record IsAskedFor {S : Type 0} (step : S → Call → S → Reply → Type 0) (observes : Call → Bool) (h g : List Event) (process : ℕ) (reply : Reply) (others : List (Member S × Path)) (m : Member S × Path) : Type 0 where
  pub before : (x : ℕ × Reply) (next : S) → IsEarlyUpdate step observes h m.1.until x next → ((other : Reply) → Contains m.0.placed (x.0, other) → ⊥) → IsEarlyGiven step h m.1.until next (process, reply)
      → IsHeldWith observes h g others m.0.placed x (λ y. IsEarlyUpdate step observes h m.1.until y next) m.0.state (λ z. IsOnOffer m.0 z ⊎ IsEarlyGiven step h m.1.until next z) m.1.until
  pub behind : (x : ℕ × Reply) (at : ℕ) (key : Item) (call : Call) (next : S) → IsOpen h at x.0 key call → observes call ≡ false → step m.0.state call next x.1 → ((other : Reply) → Contains m.0.placed (x.0, other) → ⊥)
      → IsGiven step h next (process, reply) → IsHeldWith observes h g others m.0.placed x (λ y. Unit {0}) next (λ z. IsOnOffer m.0 z ⊎ IsGiven step h m.0.state z) (length h)

-- after the ok of an observer. Members that placed it with this reply: without it. Each other one that may have the reply, since it is on offer or its state gives
-- it, is held. For each that may not, what gives it is placed
abbrev pub ObserverWithLaw : {S : Type 0} → S → (S → Call → S → Reply → Type 0) → Type 0
ObserverWithLaw {S} start step = (observes : Call → Bool) → IsOverwriting start step observes → (functions : Item → Name → Bool) (h : List Event) (event : Event) (name : Name) (reply : Reply) → event.body ≡ Ok name reply
    → IsWellFormed functions (with_event h event) → ((at : ℕ) (key : Item) (call : Call) → IsOpen h at event.process key call → observes call ≡ true) → (members others : List (Member S × Path)) → AreReached start step members
    → ((m : Member S × Path) → Contains members m → IsTakenWith observes (with_event h event) event.process reply others m)
    → ((m : Member S × Path) → Contains members m → ((other : Reply) → Contains m.0.placed (event.process, other) → ⊥)
    → IsHeldUntil observes (with_event h event) others m.0.state m.0.placed (IsOnOffer m.0) m.1.until
    ⊎ ((IsOnOffer m.0 (event.process, reply) → ⊥) × (IsGiven step h m.0.state (event.process, reply) → ⊥) × IsAskedFor step observes h (with_event h event) event.process reply others m))
    → IsCompleteWith start step observes h members → IsCompleteWith start step observes (with_event h event) others

-- all that a member with rounds leads to with early updates is true
abbrev pub SoundWithLaw : {S : Type 0} → S → (S → Call → S → Reply → Type 0) → Type 0
SoundWithLaw {S} start step = (observes : Call → Bool) → IsObserving step observes → IsOverwriting start step observes → (functions : Item → Name → Bool) (h : List Event) → IsWellFormed functions h
    → (states : List S) (rounds : List (List Placed)) (m : Member S × Path) → IsTrailOf start step observes h states rounds m.0 → AllowsOverwritten observes h m rounds
    → (c : S × List (ℕ × Reply)) → LeadsWith step observes h m c → IsConfiguration start step h c

-- rounds of a member with an early update, which the last one overwrites: it is a round of its own ahead of that one, from which what it leads to may be on offer
abbrev pub AheadLaw : {S : Type 0} → S → (S → Call → S → Reply → Type 0) → Type 0
AheadLaw {S} start step = (observes : Call → Bool) → IsOverwriting start step observes → (functions : Item → Name → Bool) (h : List Event) → IsWellFormed functions h
    → (states : List S) (rounds : List (List Placed)) (m n : Member S × Path) → IsTrailOf start step observes h states rounds m.0 → AllowsOverwritten observes h m rounds
    → (p : Placed) (process : ℕ) (next : S) (u : IsEarlyUpdate step observes h m.1.until (process, p.reply) next) → u.at ≡ p.at → m.0.state ≡ n.0.state → IsAdded process p.reply m.0.placed n.0.placed → m.1.until ≡ n.1.until
    → ((round : ℕ) (x : ℕ × Reply) → Contains n.0.offers (round, x) → Contains m.0.offers (round, x) ⊎ ((suc round ≡ length rounds) × IsWatching observes h x.0 × IsEarlyGiven step h m.1.until next x))
    → ((states' : List S) × IsTrailOf start step observes h states' (ahead p rounds) n.0) × AllowsOverwritten observes h n (ahead p rounds)

-- after an event: the same rounds, with fewer offers
abbrev pub AllowsOnLaw : Type 0 → Type 0
AllowsOnLaw S = (observes : Call → Bool) (h : List Event) (event : Event) (m n : Member S × Path) (rounds : List (List Placed)) → m.1.until ≡ n.1.until
    → ((x : ℕ × (ℕ × Reply)) → Contains n.0.offers x → Contains m.0.offers x) → AllowsOverwritten observes h m rounds → AllowsOverwritten observes (with_event h event) n rounds

-- after the ok of an observer, which is put into a round
abbrev pub AllowsPutLaw : Type 0 → Type 0
AllowsPutLaw S = (observes : Call → Bool) (functions : Item → Name → Bool) (h : List Event) (event : Event) (name : Name) (reply : Reply) → event.body ≡ Ok name reply → IsWellFormed functions (with_event h event)
    → (m n : Member S × Path) (rounds : List (List Placed)) (at : ℕ) (key : Item) (call : Call) → IsOpen h at event.process key call → (round : ℕ) → m.1.until ≡ n.1.until
    → ((x : ℕ × (ℕ × Reply)) → Contains n.0.offers x → Contains m.0.offers x) → AllowsOverwritten observes h m rounds
    → AllowsOverwritten observes (with_event h event) n (put round (record { at = at; reply = reply }) rounds)

-- a new round that begins with an open update: what is open now was called before the next event
abbrev pub AllowsBeginsLaw : Type 0 → Type 0
AllowsBeginsLaw S = (observes : Call → Bool) (h : List Event) (n : Member S × Path) (rounds : List (List Placed)) → 0 < length rounds → (p : Placed) (process : ℕ) (key : Item) (call : Call) → IsOpen h p.at process key call → observes call ≡ false
    → n.1.until ≡ length h → ((round : ℕ) (x : ℕ × Reply) → Contains n.0.offers (round, x) → round < length rounds) → AllowsOverwritten observes h n (begin_round p rounds)
