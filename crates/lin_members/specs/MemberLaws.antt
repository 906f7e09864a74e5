-- What members lead to, and what one more event makes of a complete list of members. Each law holds for any object, given by where it
-- begins and which steps it takes, and for any calls that are treated as observers.
use Rattle.std.specs.Prelude.{◌≡◌, ◌≢◌, ◌⊎◌, ◌↔◌, ℕ, Bool, true, false, List, [], ◌∷◌, ◌++◌, AllPairs, Contains}
use Rattle.lin_events.specs.declared.items.Item.{Item}
use Rattle.lin_events.specs.declared.calls.Call.{Call}
use Rattle.lin_events.specs.declared.calls.Name.{Name}
use Rattle.lin_events.specs.declared.calls.Reply.{Reply}
use Rattle.lin_events.specs.declared.events.Body.TheVariants.{Invoke, Ok, Fail, Info}
use Rattle.lin_events.specs.declared.events.Event.{Event}
use Rattle.lin_events.specs.Operations.{IsCrashed, IsOpen}
use Rattle.lin_events.specs.WellFormed.{IsWellFormed, Completes}
use Rattle.lin_objects.specs.Ahead.{IsFirst, Takes}
use Rattle.lin_objects.specs.Observing.{IsObserving}
use Rattle.lin_order.specs.declared.placed.Placed.{Placed}
use Rattle.lin_order.specs.ConfigurationLaws.{with_event}
use Rattle.lin_order.specs.Configurations.{IsAdded, IsPlacing, IsRising}
use Rattle.lin_members.specs.Covers.{HasCrashed}
use Rattle.lin_members.specs.Exchanges.{Exchange, IsExchanged}
use Rattle.lin_members.specs.Members.{Member, IsOnOffer, IsWatching, IsGiven, IsUpdate, Leads, LeadsToCover, LeadsToMember, IsComplete, IsListed, IsListing, DominatesAt, Dominates, DominatesBut, IsDominated}

-- the member of the start
abbrev pub first_member : {S : Type 0} → S → Member S
first_member start = record { state = start; placed = []; offers = [] }

-- before any event the start alone is complete
abbrev pub StartCompleteLaw : {S : Type 0} → S → (S → Call → S → Reply → Type 0) → Type 0
StartCompleteLaw {S} start step = (observes : Call → Bool) → IsComplete start step observes [] (first_member start ∷ [])

-- a process has crashed where its open operation has
abbrev pub CrashedLaw : Type 0
CrashedLaw = (functions : Item → Name → Bool) (h : List Event) → IsWellFormed functions h → (at process : ℕ) (key : Item) (call : Call) → IsOpen h at process key call
    → HasCrashed h process ↔ IsCrashed h at

-- what a dominated member leads to is covered by what the other leads to
abbrev pub DominationLaw : {S : Type 0} → (S → Call → S → Reply → Type 0) → Type 0
DominationLaw {S} step = (observes : Call → Bool) (h : List Event) (m n : Member S) → Dominates observes h m n
    → (c : S × List (ℕ × Reply)) → Leads step observes h n c → LeadsToCover step observes h m c

-- so where each member is dominated by one of others, the others are complete as well
abbrev pub DroppingLaw : {S : Type 0} → S → (S → Call → S → Reply → Type 0) → Type 0
DroppingLaw {S} start step = (observes : Call → Bool) (h : List Event) (members others : List (Member S)) → IsDominated observes h members others
    → IsComplete start step observes h members → IsComplete start step observes h others

-- one member that another place of the list dominates can be dropped
abbrev pub DropOneLaw : {S : Type 0} → S → (S → Call → S → Reply → Type 0) → Type 0
DropOneLaw {S} start step = (observes : Call → Bool) (h : List Event) (before after : List (Member S)) (m n : Member S) → Contains (before ++ after) m → Dominates observes h m n
    → IsComplete start step observes h (before ++ (n ∷ after)) → IsComplete start step observes h (before ++ after)

-- where each member is led to by one of others, the others are complete as well
abbrev pub LedToLaw : {S : Type 0} → S → (S → Call → S → Reply → Type 0) → Type 0
LedToLaw {S} start step = (observes : Call → Bool) (h : List Event) (members others : List (Member S))
    → ((m : Member S) → Contains members m → (n : Member S) × Contains others n × LeadsToMember step observes h n m)
    → IsComplete start step observes h members → IsComplete start step observes h others

-- domination is transitive
abbrev pub TransitiveLaw : Type 0 → Type 0
TransitiveLaw S = (observes : Call → Bool) (h : List Event) (k m n : Member S) → Dominates observes h k m → Dominates observes h m n → Dominates observes h k n

-- placing an open operation stays within what a member leads to
abbrev pub PlaceLaw : {S : Type 0} → (S → Call → S → Reply → Type 0) → Type 0
PlaceLaw {S} step = (observes : Call → Bool) → IsObserving step observes → (functions : Item → Name → Bool) (h : List Event) → IsWellFormed functions h
    → (m : Member S) (c d : S × List (ℕ × Reply)) (p : Placed) → LeadsToCover step observes h m c → IsPlacing step h c p d → LeadsToCover step observes h m d

-- what a member leads to it leads to after an invocation
abbrev pub LeadsOnLaw : {S : Type 0} → (S → Call → S → Reply → Type 0) → Type 0
LeadsOnLaw {S} step = (observes : Call → Bool) (h : List Event) (event : Event) (call : Call) → event.body ≡ Invoke call
    → (m : Member S) (c : S × List (ℕ × Reply)) → Leads step observes h m c → Leads step observes (with_event h event) m c

-- after an invocation: the same members
abbrev pub InvocationKeepsLaw : {S : Type 0} → S → (S → Call → S → Reply → Type 0) → Type 0
InvocationKeepsLaw {S} start step = (observes : Call → Bool) → IsObserving step observes → (functions : Item → Name → Bool) (h : List Event) (event : Event) (call : Call) → event.body ≡ Invoke call
    → IsWellFormed functions (with_event h event) → (members : List (Member S)) → IsComplete start step observes h members → IsComplete start step observes (with_event h event) members

-- after an info: the same members, or such as dominate them now
abbrev pub InfoKeepsLaw : {S : Type 0} → S → (S → Call → S → Reply → Type 0) → Type 0
InfoKeepsLaw {S} start step = (observes : Call → Bool) (functions : Item → Name → Bool) (h : List Event) (event : Event) (name : Name) → event.body ≡ Info name
    → IsWellFormed functions (with_event h event) → (members others : List (Member S)) → IsDominated observes (with_event h event) members others
    → IsComplete start step observes h members → IsComplete start step observes (with_event h event) others

-- after a fail: the members that did not place the operation, or such as dominate them now
abbrev pub FailKeepsLaw : {S : Type 0} → S → (S → Call → S → Reply → Type 0) → Type 0
FailKeepsLaw {S} start step = (observes : Call → Bool) (functions : Item → Name → Bool) (h : List Event) (event : Event) (name : Name) → event.body ≡ Fail name
    → IsWellFormed functions (with_event h event) → (members others : List (Member S))
    → ((m : Member S) → Contains members m → ((reply : Reply) → Contains m.placed (event.process, reply) → ⊥) → (n : Member S) × Contains others n × Dominates observes (with_event h event) n m)
    → IsComplete start step observes h members → IsComplete start step observes (with_event h event) others

-- after a completion what is on offer to its process no longer counts
abbrev pub OffersGoLaw : Type 0 → Type 0
OffersGoLaw S = (observes : Call → Bool) (functions : Item → Name → Bool) (h : List Event) (event : Event) (name : Name) → Completes event.body name → IsWellFormed functions (with_event h event)
    → (m n : Member S) → DominatesBut observes (with_event h event) event.process m n → Dominates observes (with_event h event) m n

-- one of the others dominates, without the pair, the member that placed it
abbrev pub IsTaken : {S : Type 0} → (Call → Bool) → List Event → ℕ → Reply → List (Member S) → Member S → Type 0
IsTaken {S} observes h process reply others m = (without : List (ℕ × Reply)) → IsAdded process reply without m.placed
    → (n : Member S) × Contains others n × DominatesAt observes h n m.state without (IsOnOffer m)

-- one of the members dominates these placed operations, once crashed ones that have the same call are exchanged
pub record IsDominatedAt {S : Type 0} (observes : Call → Bool) (h : List Event) (members : List (Member S)) (state : S) (placed : List (ℕ × Reply)) (offers : ℕ × Reply → Type 0) : Type 0 where
  pub exchange : Exchange h
  pub others : List (ℕ × Reply)
  pub exchanged : IsExchanged exchange placed others
  pub member : Member S
  pub among : Contains members member
  pub dominates : DominatesAt observes h member state others offers

-- where each member is dominated so by one of others, the others are complete as well
abbrev pub ThinningLaw : {S : Type 0} → S → (S → Call → S → Reply → Type 0) → Type 0
ThinningLaw {S} start step = (observes : Call → Bool) (functions : Item → Name → Bool) (h : List Event) → IsWellFormed functions h → (members others : List (Member S))
    → ((m : Member S) → Contains members m → IsDominatedAt observes h others m.state m.placed (IsOnOffer m))
    → IsComplete start step observes h members → IsComplete start step observes h others

-- each update of the member, but one of the process, comes to what a visited one dominates, but for what is on offer to the process
abbrev pub IsSearched : {S : Type 0} → (S → Call → S → Reply → Type 0) → (Call → Bool) → List Event → ℕ → List (Member S) → Member S → Type 0
IsSearched {S} step observes h process visited m = (d : S × List (ℕ × Reply)) (u : IsUpdate step observes h (m.state, m.placed) d) → u.1.process ≢ process
    → IsDominatedAt observes h visited d.0 d.1 (λ x. (x.0 ≢ process) × (IsOnOffer m x ⊎ IsGiven step h m.state x))

-- after the ok of an observer. Members that placed it with this reply: without it. The others are visited. Each visited one that may have the
-- reply is held. Each that may not, since the reply is not on offer and its state does not give it, is searched
abbrev pub ObserverSearchLaw : {S : Type 0} → S → (S → Call → S → Reply → Type 0) → Type 0
ObserverSearchLaw {S} start step = (observes : Call → Bool) (functions : Item → Name → Bool) (h : List Event) (event : Event) (name : Name) (reply : Reply) → event.body ≡ Ok name reply
    → IsWellFormed functions (with_event h event) → ((at : ℕ) (key : Item) (call : Call) → IsOpen h at event.process key call → observes call ≡ true) → (members visited others : List (Member S))
    → ((m : Member S) → Contains members m → IsTaken observes (with_event h event) event.process reply others m)
    → ((m : Member S) → Contains members m → ((other : Reply) → Contains m.placed (event.process, other) → ⊥) → (n : Member S) × Contains visited n × Dominates observes h n m)
    → ((m : Member S) → Contains visited m → ((n : Member S) × Contains others n × Dominates observes (with_event h event) n m)
    ⊎ ((IsOnOffer m (event.process, reply) → ⊥) × (IsGiven step h m.state (event.process, reply) → ⊥) × IsSearched step observes h event.process visited m))
    → IsComplete start step observes h members → IsComplete start step observes (with_event h event) others

-- wherever others that are open, each of its own process, can be placed from the state on and then the call, it can be placed at once with its reply,
-- and then they in some order
abbrev pub IsAheadOfOpen : {S : Type 0} → (S → Call → S → Reply → Type 0) → List Event → S → Call → Reply → Type 0
IsAheadOfOpen {S} step h state call reply = (others : List (ℕ × Call × Reply)) (mid last : S) → AllPairs (λ x y. x.0 ≢ y.0) others
    → ((x : ℕ × Call × Reply) → Contains others x → (at : ℕ) × (key : Item) × IsOpen h at x.0 key x.1) → Takes step state others mid → step mid call last reply → IsFirst step state call reply others last

-- nobody observes behind the ok of the process, and its operation goes ahead of all that are open then
abbrev pub IsAheadOfAll : {S : Type 0} → (S → Call → S → Reply → Type 0) → (Call → Bool) → List Event → List Event → ℕ → Reply → S → Type 0
IsAheadOfAll step observes h after process reply state = ((at q : ℕ) (key : Item) (call : Call) → IsOpen after at q key call → observes call ≡ false)
    × ((at : ℕ) (key : Item) (call : Call) → IsOpen h at process key call → IsAheadOfOpen step after state call reply)

-- after the ok of an update. Members that placed it with this reply: without it. The others are visited. Of each visited one, what placing this one
-- with the reply makes of it, without it, is held; and it is searched by all other updates, unless the operation goes ahead of them: what could be
-- placed ahead of it can be placed behind it then
abbrev pub UpdateSearchLaw : {S : Type 0} → S → (S → Call → S → Reply → Type 0) → Type 0
UpdateSearchLaw {S} start step = (observes : Call → Bool) (functions : Item → Name → Bool) (h : List Event) (event : Event) (name : Name) (reply : Reply) → event.body ≡ Ok name reply
    → IsWellFormed functions (with_event h event) → ((at : ℕ) (key : Item) (call : Call) → IsOpen h at event.process key call → observes call ≡ false) → (members visited others : List (Member S))
    → ((m : Member S) → Contains members m → IsTaken observes (with_event h event) event.process reply others m)
    → ((m : Member S) → Contains members m → ((other : Reply) → Contains m.placed (event.process, other) → ⊥) → (n : Member S) × Contains visited n × Dominates observes h n m)
    → ((m : Member S) → Contains visited m → IsSearched step observes h event.process visited m ⊎ IsAheadOfAll step observes h (with_event h event) event.process reply m.state)
    → ((m : Member S) → Contains visited m → (d : S × List (ℕ × Reply)) (u : IsUpdate step observes h (m.state, m.placed) d) → u.1.process ≡ event.process → u.0.reply ≡ reply
    → (n : Member S) × Contains others n × DominatesAt observes (with_event h event) n d.0 m.placed (λ x. IsOnOffer m x ⊎ IsGiven step h m.state x))
    → IsComplete start step observes h members → IsComplete start step observes (with_event h event) others

-- what a search makes of a member by an update dominates what the update comes to, but for what is on offer to a process
abbrev pub SuccessorLaw : {S : Type 0} → (S → Call → S → Reply → Type 0) → Type 0
SuccessorLaw {S} step = (observes : Call → Bool) (h : List Event) (process : ℕ) (m n : Member S) (d : S × List (ℕ × Reply)) (u : IsUpdate step observes h (m.state, m.placed) d) → n.state ≡ d.0
    → IsAdded u.1.process u.0.reply m.placed n.placed
    → ((x : ℕ × Reply) → x.0 ≢ process → IsWatching observes h x.0 → ((other : Reply) → Contains n.placed (x.0, other) → ⊥) → IsOnOffer m x ⊎ IsGiven step h m.state x → IsOnOffer n x)
    → DominatesAt observes h n d.0 d.1 (λ x. (x.0 ≢ process) × (IsOnOffer m x ⊎ IsGiven step h m.state x))

-- and so does what dominates that: the search may leave it out
abbrev pub SkippedLaw : {S : Type 0} → (S → Call → S → Reply → Type 0) → Type 0
SkippedLaw {S} step = (observes : Call → Bool) (h : List Event) (process : ℕ) (k m n : Member S) (d : S × List (ℕ × Reply))
    → DominatesAt observes h n d.0 d.1 (λ x. (x.0 ≢ process) × (IsOnOffer m x ⊎ IsGiven step h m.state x)) → DominatesBut observes h process k n
    → DominatesAt observes h k d.0 d.1 (λ x. (x.0 ≢ process) × (IsOnOffer m x ⊎ IsGiven step h m.state x))

-- the others hold the member but for what is on offer to the process, and for each of these offers the member that placed it
pub record IsSpread {S : Type 0} (observes : Call → Bool) (h : List Event) (process : ℕ) (others : List (Member S)) (m : Member S) : Type 0 where
  pub without : (n : Member S) × Contains others n × DominatesBut observes h process n m
  pub each : (reply : Reply) → IsOnOffer m (process, reply) → ((other : Reply) → Contains m.placed (process, other) → ⊥) → (wider : List (ℕ × Reply)) → IsAdded process reply m.placed wider
      → (n : Member S) × Contains others n × DominatesAt observes h n m.state wider (λ x. (x.0 ≢ process) × IsOnOffer m x)

-- where each member is dominated by one of others, or the others hold it with the offers to one process taken, the others are complete as well
abbrev pub SpreadingLaw : {S : Type 0} → S → (S → Call → S → Reply → Type 0) → Type 0
SpreadingLaw {S} start step = (observes : Call → Bool) (h : List Event) (members others : List (Member S))
    → ((m : Member S) → Contains members m → ((n : Member S) × Contains others n × Dominates observes h n m) ⊎ ((process : ℕ) × IsSpread observes h process others m))
    → IsComplete start step observes h members → IsComplete start step observes h others

-- a complete list of members that have nothing on offer, and of which each placing of an open operation comes to what a member covers, covers
-- each configuration
abbrev pub ListingLaw : {S : Type 0} → S → (S → Call → S → Reply → Type 0) → Type 0
ListingLaw {S} start step = (observes : Call → Bool) → IsObserving step observes → (functions : Item → Name → Bool) (h : List Event) → IsWellFormed functions h → (members : List (Member S))
    → ((m : Member S) → Contains members m → IsRising m.placed) → ((m : Member S) (x : ℕ × Reply) → Contains members m → IsOnOffer m x → ⊥)
    → ((m : Member S) (p : Placed) (d : S × List (ℕ × Reply)) → Contains members m → IsPlacing step h (m.state, m.placed) p d → IsListed h members d)
    → IsComplete start step observes h members → IsListing start step h members

-- and a list that covers each configuration is complete
abbrev pub ListedLaw : {S : Type 0} → S → (S → Call → S → Reply → Type 0) → Type 0
ListedLaw {S} start step = (observes : Call → Bool) (h : List Event) (members : List (Member S)) → ((m : Member S) → Contains members m → IsRising m.placed)
    → IsListing start step h members → IsComplete start step observes h members

-- after an ok, of a list that covers each configuration: the members that placed the operation with this reply, without it. Nothing is searched
abbrev pub ListingOkLaw : {S : Type 0} → S → (S → Call → S → Reply → Type 0) → Type 0
ListingOkLaw {S} start step = (functions : Item → Name → Bool) (h : List Event) (event : Event) (name : Name) (reply : Reply) → event.body ≡ Ok name reply → IsWellFormed functions (with_event h event)
    → (members others : List (Member S)) → ((m : Member S) → Contains members m → IsRising m.placed)
    → ((m : Member S) (without : List (ℕ × Reply)) → Contains members m → IsAdded event.process reply without m.placed → IsListed (with_event h event) others (m.state, without))
    → IsListing start step h members → IsListing start step (with_event h event) others
