-- Members of a compressed frontier: each stands for all configurations that it leads to. Laws speak of any object, given by the steps
-- that it takes, and of any calls that are treated as observers.
use Rattle.std.specs.Prelude.{◌≡◌, ◌≢◌, ◌⊎◌, ℕ, Bool, true, false, List, Contains}
use Rattle.lin_events.specs.declared.items.Item.{Item}
use Rattle.lin_events.specs.declared.calls.Call.{Call}
use Rattle.lin_events.specs.declared.calls.Reply.{Reply}
use Rattle.lin_events.specs.declared.events.Event.{Event}
use Rattle.lin_events.specs.Operations.{IsOpen}
use Rattle.lin_order.specs.declared.placed.Placed.{Placed}
use Rattle.lin_order.specs.Configurations.{IsRising, IsConfiguration, IsPlacing}
use Rattle.lin_members.specs.Covers.{Covers, HasCrashed}
use Rattle.lin_members.specs.Exchanges.{Exchange, IsExchanged}

-- a state, the open operations placed so far, and what was on offer before this state: in which round, to which process, which reply
pub record Member (S : Type 0) : Type 0 where
  pub state : S
  pub placed : List (ℕ × Reply)
  pub offers : List (ℕ × (ℕ × Reply))

-- the reply is on offer to the process, from some round
abbrev pub IsOnOffer : {S : Type 0} → Member S → ℕ × Reply → Type 0
IsOnOffer m x = (round : ℕ) × Contains m.offers (round, x)

-- the process has an open operation that observes, and none that crashed
pub record IsWatching (observes : Call → Bool) (h : List Event) (process : ℕ) : Type 0 where
  pub at : ℕ
  pub key : Item
  pub call : Call
  pub is_open : IsOpen h at process key call
  pub observer : observes call ≡ true
  pub alive : HasCrashed h process → ⊥

-- the state gives the reply to the open call of the process
pub record IsGiven {S : Type 0} (step : S → Call → S → Reply → Type 0) (h : List Event) (state : S) (x : ℕ × Reply) : Type 0 where
  pub at : ℕ
  pub key : Item
  pub call : Call
  pub next : S
  pub is_open : IsOpen h at x.0 key call
  pub steps : step state call next x.1

-- an open operation that is no observer is placed
abbrev pub IsUpdate : {S : Type 0} → (S → Call → S → Reply → Type 0) → (Call → Bool) → List Event → S × List (ℕ × Reply) → S × List (ℕ × Reply) → Type 0
IsUpdate step observes h c d = (p : Placed) × (placing : IsPlacing step h c p d) × (observes placing.call ≡ false)

-- placing updates, one after the other, leads from the one state and placed operations to the other
pub data Way {S : Type 0} (step : S → Call → S → Reply → Type 0) (observes : Call → Bool) (h : List Event) (b : S × List (ℕ × Reply)) : S × List (ℕ × Reply) → Type 0 where
  here : Way step observes h b b
  more : {c d : S × List (ℕ × Reply)} → Way step observes h b c → IsUpdate step observes h c d → Way step observes h b d

-- what was on offer before the last state of a way: at its beginning, or given by a state that it left
abbrev pub IsOffered : {S : Type 0} → (step : S → Call → S → Reply → Type 0) → (observes : Call → Bool) → (h : List Event) → (ℕ × Reply → Type 0)
    → (b c : S × List (ℕ × Reply)) → Way step observes h b c → ℕ × Reply → Type 0
IsOffered step observes h offers b c here x = offers x
IsOffered step observes h offers b c (more {c = d} way u) x = IsOffered step observes h offers b d way x ⊎ IsGiven step h d.0 x

-- an open observer, which has not crashed, may have this reply: it was on offer before the last state of the way, or that state gives it
abbrev pub IsReady : {S : Type 0} → (step : S → Call → S → Reply → Type 0) → (observes : Call → Bool) → (h : List Event) → (ℕ × Reply → Type 0)
    → (b c : S × List (ℕ × Reply)) → Way step observes h b c → ℕ × Reply → Type 0
IsReady step observes h offers b c way x = IsWatching observes h x.0 × (IsOffered step observes h offers b c way x ⊎ IsGiven step h c.0 x)

-- the ways of a member
abbrev pub WayOf : {S : Type 0} → (S → Call → S → Reply → Type 0) → (Call → Bool) → List Event → Member S → S × List (ℕ × Reply) → Type 0
WayOf step observes h m c = Way step observes h (m.state, m.placed) c

-- by placing updates the member comes to a state and placed operations that, with observers that are ready, are the configuration
pub record Leads {S : Type 0} (step : S → Call → S → Reply → Type 0) (observes : Call → Bool) (h : List Event) (m : Member S) (c : S × List (ℕ × Reply)) : Type 0 where
  pub placed : List (ℕ × Reply)
  pub way : WayOf step observes h m (c.0, placed)
  pub before : IsRising placed
  pub rising : IsRising c.1
  pub part : (x : ℕ × Reply) → Contains placed x → Contains c.1 x
  pub each : (x : ℕ × Reply) → Contains c.1 x → Contains placed x ⊎ IsReady step observes h (IsOnOffer m) (m.state, m.placed) (c.0, placed) way x

-- from a state, placed operations and offers, some way comes to this state so that what is placed, ready or crashed is just this
pub record Meets {S : Type 0} (step : S → Call → S → Reply → Type 0) (observes : Call → Bool) (h : List Event) (b : S × List (ℕ × Reply)) (offers : ℕ × Reply → Type 0) (s : S) (q : List (ℕ × Reply)) : Type 0 where
  pub placed : List (ℕ × Reply)
  pub way : Way step observes h b (s, placed)
  pub before : IsRising placed
  pub rising : IsRising q
  pub part : (x : ℕ × Reply) → Contains placed x → Contains q x
  pub each : (x : ℕ × Reply) → Contains q x → Contains placed x ⊎ (IsReady step observes h offers b (s, placed) way x ⊎ HasCrashed h x.0)

-- the member leads to a configuration that covers this one
abbrev pub LeadsToCover : {S : Type 0} → (S → Call → S → Reply → Type 0) → (Call → Bool) → List Event → Member S → S × List (ℕ × Reply) → Type 0
LeadsToCover {S} step observes h m c = (b : S × List (ℕ × Reply)) × Leads step observes h m b × Covers (HasCrashed h) b c

-- one of the members leads to a configuration that covers this one, once crashed operations that have the same call are exchanged
pub record IsCovered {S : Type 0} (step : S → Call → S → Reply → Type 0) (observes : Call → Bool) (h : List Event) (members : List (Member S)) (c : S × List (ℕ × Reply)) : Type 0 where
  pub exchange : Exchange h
  pub placed : List (ℕ × Reply)
  pub exchanged : IsExchanged exchange c.1 placed
  pub member : Member S
  pub among : Contains members member
  pub leads : LeadsToCover step observes h member (c.0, placed)

-- each configuration of the history is
abbrev pub IsComplete : {S : Type 0} → S → (S → Call → S → Reply → Type 0) → (Call → Bool) → List Event → List (Member S) → Type 0
IsComplete {S} start step observes h members = (c : S × List (ℕ × Reply)) → IsConfiguration start step h c → IsCovered step observes h members c

-- the member itself covers the configuration
abbrev pub IsListed : {S : Type 0} → List Event → List (Member S) → S × List (ℕ × Reply) → Type 0
IsListed {S} h members c = (m : Member S) × Contains members m × Covers (HasCrashed h) (m.state, m.placed) c

-- each configuration of the history is covered by a member itself, once crashed operations that have the same call are exchanged
abbrev pub IsListing : {S : Type 0} → S → (S → Call → S → Reply → Type 0) → List Event → List (Member S) → Type 0
IsListing {S} start step h members = (c : S × List (ℕ × Reply)) → IsConfiguration start step h c
    → (e : Exchange h) × (placed : List (ℕ × Reply)) × IsExchanged e c.1 placed × IsListed h members (c.0, placed)

-- the member has this state, no more placed but what crashed, and on offer all of these that still matter
pub record DominatesAt {S : Type 0} (observes : Call → Bool) (h : List Event) (m : Member S) (state : S) (placed : List (ℕ × Reply)) (offers : ℕ × Reply → Type 0) : Type 0 where
  pub sorted : IsRising m.placed
  pub same : m.state ≡ state
  pub part : (x : ℕ × Reply) → Contains m.placed x → Contains placed x
  pub rest : (x : ℕ × Reply) → Contains placed x → Contains m.placed x ⊎ HasCrashed h x.0
  pub offered : (x : ℕ × Reply) → IsWatching observes h x.0 → ((other : Reply) → Contains m.placed (x.0, other) → ⊥) → offers x → IsOnOffer m x

-- the first member dominates the second
abbrev pub Dominates : {S : Type 0} → (Call → Bool) → List Event → Member S → Member S → Type 0
Dominates observes h m n = DominatesAt observes h m n.state n.placed (IsOnOffer n)

-- it does so, but for what is on offer to this process
abbrev pub DominatesBut : {S : Type 0} → (Call → Bool) → List Event → ℕ → Member S → Member S → Type 0
DominatesBut observes h process m n = DominatesAt observes h m n.state n.placed (λ x. (x.0 ≢ process) × IsOnOffer n x)

-- each member is dominated by one of the others
abbrev pub IsDominated : {S : Type 0} → (Call → Bool) → List Event → List (Member S) → List (Member S) → Type 0
IsDominated {S} observes h members others = (m : Member S) → Contains members m → (n : Member S) × Contains others n × Dominates observes h n m

-- by placing updates the first member comes to the state of the second, with no more placed but what crashed, and there may have all that the second
-- has on offer
pub record LeadsToMember {S : Type 0} (step : S → Call → S → Reply → Type 0) (observes : Call → Bool) (h : List Event) (m n : Member S) : Type 0 where
  pub placed : List (ℕ × Reply)
  pub way : WayOf step observes h m (n.state, placed)
  pub sorted : IsRising placed
  pub part : (x : ℕ × Reply) → Contains placed x → Contains n.placed x
  pub rest : (x : ℕ × Reply) → Contains n.placed x → Contains placed x ⊎ HasCrashed h x.0
  pub offered : (x : ℕ × Reply) → IsWatching observes h x.0 → ((other : Reply) → Contains placed (x.0, other) → ⊥) → IsOnOffer n x
      → IsOffered step observes h (IsOnOffer m) (m.state, m.placed) (n.state, placed) way x ⊎ IsGiven step h n.state x
