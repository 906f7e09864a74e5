-- Orders by rounds: why what a member leads to is true. Each law holds for any object, given by where it begins and which steps it takes, and for
-- any calls that are treated as observers.
use Rattle.std.specs.Prelude.{◌≡◌, ◌⊎◌, ◌↔◌, ℕ, suc, Bool, true, List, [], ◌∷◌, ◌++◌, length, Contains}
use Rattle.lin_events.specs.declared.items.Item.{Item}
use Rattle.lin_events.specs.declared.calls.Call.{Call}
use Rattle.lin_events.specs.declared.calls.Name.{Name}
use Rattle.lin_events.specs.declared.calls.Reply.{Reply}
use Rattle.lin_events.specs.declared.events.Body.TheVariants.{Invoke, Ok, Fail, Info}
use Rattle.lin_events.specs.declared.events.Event.{Event}
use Rattle.lin_events.specs.Operations.{IsOpen}
use Rattle.lin_events.specs.WellFormed.{IsWellFormed}
use Rattle.lin_objects.specs.Observing.{IsObserving}
use Rattle.lin_order.specs.declared.placed.Placed.{Placed}
use Rattle.lin_order.specs.ConfigurationLaws.{with_event}
use Rattle.lin_order.specs.Configurations.{EndsIn, IsAdded, IsConfiguration, IsPlacing}
use Rattle.lin_members.specs.Members.{Member, IsWatching, IsGiven, Leads, IsComplete}
use Rattle.lin_members.specs.MemberLaws.{first_member}
use Rattle.lin_members.specs.Rounds.{joined, put, begin_round, IsTrailOf}

-- before any event: one empty round
abbrev pub TrailStartLaw : {S : Type 0} → S → (S → Call → S → Reply → Type 0) → Type 0
TrailStartLaw {S} start step = (observes : Call → Bool) → IsTrailOf start step observes [] (start ∷ []) ([] ∷ []) (first_member start)

-- the rounds of a member spell a legal order that ends in its state, with what it placed
abbrev pub TrailEndsLaw : {S : Type 0} → S → (S → Call → S → Reply → Type 0) → Type 0
TrailEndsLaw {S} start step = (observes : Call → Bool) (h : List Event) (states : List S) (rounds : List (List Placed)) (m : Member S) → IsTrailOf start step observes h states rounds m
    → EndsIn start step h (joined rounds) (m.state, m.placed)

-- a reply that the round offers to the open operation: on offer from it, or given by the member's own state, which the last round ends in
abbrev pub IsOfferFrom : {S : Type 0} → (S → Call → S → Reply → Type 0) → List Event → List (List Placed) → Member S → ℕ → ℕ × Reply → Type 0
IsOfferFrom step h rounds m round x = Contains m.offers (round, x) ⊎ ((suc round ≡ length rounds) × IsGiven step h m.state x)

-- no offer is new but what the last round gives to observers
abbrev pub OffersFrom : {S : Type 0} → (S → Call → S → Reply → Type 0) → (Call → Bool) → List Event → List (List Placed) → Member S → Member S → Type 0
OffersFrom step observes h rounds m n = (round : ℕ) (x : ℕ × Reply) → Contains n.offers (round, x)
    → Contains m.offers (round, x) ⊎ ((suc round ≡ length rounds) × IsWatching observes h x.0 × IsGiven step h m.state x)

-- fewer offers
abbrev pub FewerLaw : {S : Type 0} → S → (S → Call → S → Reply → Type 0) → Type 0
FewerLaw {S} start step = (observes : Call → Bool) (h : List Event) (states : List S) (rounds : List (List Placed)) (m n : Member S) → m.state ≡ n.state → m.placed ≡ n.placed
    → ((x : ℕ × (ℕ × Reply)) → Contains n.offers x → Contains m.offers x) → IsTrailOf start step observes h states rounds m → IsTrailOf start step observes h states rounds n

-- an open operation that is placed begins a round, and what the last round gives may come on offer
abbrev pub TrailPlacesLaw : {S : Type 0} → S → (S → Call → S → Reply → Type 0) → Type 0
TrailPlacesLaw {S} start step = (observes : Call → Bool) (functions : Item → Name → Bool) (h : List Event) → IsWellFormed functions h → (states : List S) (rounds : List (List Placed)) (m n : Member S)
    → IsTrailOf start step observes h states rounds m → (p : Placed) → IsPlacing step h (m.state, m.placed) p (n.state, n.placed) → OffersFrom step observes h rounds m n
    → IsTrailOf start step observes h (states ++ n.state ∷ []) (begin_round p rounds) n

-- an open observer with a reply that a round offers is put at the end of that round
abbrev pub TrailTakesLaw : {S : Type 0} → S → (S → Call → S → Reply → Type 0) → Type 0
TrailTakesLaw {S} start step = (observes : Call → Bool) → IsObserving step observes → (functions : Item → Name → Bool) (h : List Event) → IsWellFormed functions h
    → (states : List S) (rounds : List (List Placed)) (m n : Member S) → IsTrailOf start step observes h states rounds m
    → (p : Placed) (process : ℕ) (key : Item) (call : Call) → IsOpen h p.at process key call → observes call ≡ true → (round : ℕ) → IsOfferFrom step h rounds m round (process, p.reply)
    → m.state ≡ n.state → IsAdded process p.reply m.placed n.placed → ((x : ℕ × (ℕ × Reply)) → Contains n.offers x → Contains m.offers x)
    → IsTrailOf start step observes h states (put round p rounds) n

-- an invocation and an info keep the rounds of each member
abbrev pub TrailInvocationLaw : {S : Type 0} → S → (S → Call → S → Reply → Type 0) → Type 0
TrailInvocationLaw {S} start step = (observes : Call → Bool) (functions : Item → Name → Bool) (h : List Event) (event : Event) (call : Call) → event.body ≡ Invoke call → IsWellFormed functions (with_event h event)
    → (states : List S) (rounds : List (List Placed)) (m : Member S) → IsTrailOf start step observes h states rounds m → IsTrailOf start step observes (with_event h event) states rounds m

abbrev pub TrailInfoLaw : {S : Type 0} → S → (S → Call → S → Reply → Type 0) → Type 0
TrailInfoLaw {S} start step = (observes : Call → Bool) (functions : Item → Name → Bool) (h : List Event) (event : Event) (name : Name) → event.body ≡ Info name → IsWellFormed functions (with_event h event)
    → (states : List S) (rounds : List (List Placed)) (m : Member S) → IsTrailOf start step observes h states rounds m → IsTrailOf start step observes (with_event h event) states rounds m

-- a fail keeps those of members that did not place the operation and have no offer to it
abbrev pub TrailFailLaw : {S : Type 0} → S → (S → Call → S → Reply → Type 0) → Type 0
TrailFailLaw {S} start step = (observes : Call → Bool) (functions : Item → Name → Bool) (h : List Event) (event : Event) (name : Name) → event.body ≡ Fail name → IsWellFormed functions (with_event h event)
    → (states : List S) (rounds : List (List Placed)) (m : Member S) → ((reply : Reply) → Contains m.placed (event.process, reply) → ⊥)
    → ((round : ℕ) (reply : Reply) → Contains m.offers (round, (event.process, reply)) → ⊥)
    → IsTrailOf start step observes h states rounds m → IsTrailOf start step observes (with_event h event) states rounds m

-- an ok keeps those of members that placed the operation with the reply, which then lack it, and have no offer to it
abbrev pub TrailOkLaw : {S : Type 0} → S → (S → Call → S → Reply → Type 0) → Type 0
TrailOkLaw {S} start step = (observes : Call → Bool) (functions : Item → Name → Bool) (h : List Event) (event : Event) (name : Name) (reply : Reply) → event.body ≡ Ok name reply
    → IsWellFormed functions (with_event h event) → (states : List S) (rounds : List (List Placed)) (m n : Member S) → m.state ≡ n.state → IsAdded event.process reply n.placed m.placed
    → ((x : ℕ × (ℕ × Reply)) → Contains n.offers x → Contains m.offers x) → ((round : ℕ) (other : Reply) → Contains n.offers (round, (event.process, other)) → ⊥)
    → IsTrailOf start step observes h states rounds m → IsTrailOf start step observes (with_event h event) states rounds n

-- the ok of an observer with a reply that a round offers: it is put at the end of that round, and no longer open
abbrev pub TrailObserverLaw : {S : Type 0} → S → (S → Call → S → Reply → Type 0) → Type 0
TrailObserverLaw {S} start step = (observes : Call → Bool) → IsObserving step observes → (functions : Item → Name → Bool) (h : List Event) (event : Event) (name : Name) (reply : Reply) → event.body ≡ Ok name reply
    → IsWellFormed functions (with_event h event) → (states : List S) (rounds : List (List Placed)) (m n : Member S) → IsTrailOf start step observes h states rounds m
    → (at : ℕ) (key : Item) (call : Call) → IsOpen h at event.process key call → observes call ≡ true → (round : ℕ) → IsOfferFrom step h rounds m round (event.process, reply)
    → ((other : Reply) → Contains m.placed (event.process, other) → ⊥) → m.state ≡ n.state → m.placed ≡ n.placed
    → ((x : ℕ × (ℕ × Reply)) → Contains n.offers x → Contains m.offers x) → ((round : ℕ) (other : Reply) → Contains n.offers (round, (event.process, other)) → ⊥)
    → IsTrailOf start step observes (with_event h event) states (put round (record { at = at; reply = reply }) rounds) n

-- the ok of an operation that is placed with its reply: it begins a round, and is no longer open
abbrev pub TrailReturnLaw : {S : Type 0} → S → (S → Call → S → Reply → Type 0) → Type 0
TrailReturnLaw {S} start step = (observes : Call → Bool) (functions : Item → Name → Bool) (h : List Event) (event : Event) (name : Name) (reply : Reply) → event.body ≡ Ok name reply
    → IsWellFormed functions (with_event h event) → (states : List S) (rounds : List (List Placed)) (m n : Member S) → IsTrailOf start step observes h states rounds m
    → (p : Placed) (placed : List (ℕ × Reply)) (placing : IsPlacing step h (m.state, m.placed) p (n.state, placed)) → placing.process ≡ event.process → p.reply ≡ reply → m.placed ≡ n.placed
    → OffersFrom step observes h rounds m n → ((round : ℕ) (other : Reply) → Contains n.offers (round, (event.process, other)) → ⊥)
    → IsTrailOf start step observes (with_event h event) (states ++ n.state ∷ []) (begin_round p rounds) n

-- all that a member with rounds leads to is true
abbrev pub SoundLaw : {S : Type 0} → S → (S → Call → S → Reply → Type 0) → Type 0
SoundLaw {S} start step = (observes : Call → Bool) → IsObserving step observes → (functions : Item → Name → Bool) (h : List Event) → IsWellFormed functions h
    → (states : List S) (rounds : List (List Placed)) (m : Member S) → IsTrailOf start step observes h states rounds m → (c : S × List (ℕ × Reply)) → Leads step observes h m c → IsConfiguration start step h c

-- a configuration exists just where a complete list, whose members have rounds, has a member
abbrev pub ExactLaw : {S : Type 0} → S → (S → Call → S → Reply → Type 0) → Type 0
ExactLaw {S} start step = (observes : Call → Bool) (h : List Event) (members : List (Member S)) → IsComplete start step observes h members
    → ((m : Member S) → Contains members m → (states : List S) × (rounds : List (List Placed)) × IsTrailOf start step observes h states rounds m)
    → ((c : S × List (ℕ × Reply)) × IsConfiguration start step h c) ↔ ((m : Member S) × Contains members m)
