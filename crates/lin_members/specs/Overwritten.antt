-- Updates that another update overwrote. Where an object is overwritten, an open update may have taken effect just before the last one of a member:
-- that overwrites it, so the member's state stays as it is, and only observers that were open by then may have seen what it did. So a
-- member stands for all choices of such updates, and none of them is placed before its completion, or a reply that only it can have given, asks for it.
use Rattle.std.specs.Prelude.{◌≡◌, ◌⊎◌, ℕ, suc, ◌<◌, ◌≤◌, Bool, true, false, List, [], ◌∷◌, ◌++◌, length, map, Contains}
use Rattle.lin_events.specs.declared.items.Item.{Item}
use Rattle.lin_events.specs.declared.calls.Call.{Call}
use Rattle.lin_events.specs.declared.calls.Reply.{Reply}
use Rattle.lin_events.specs.declared.events.Event.{Event}
use Rattle.lin_events.specs.Operations.{IsOpen}
use Rattle.lin_order.specs.declared.placed.Placed.{Placed}
use Rattle.lin_order.specs.Configurations.{IsConfiguration, IsRising}
use Rattle.lin_order.specs.Orders.{IsBefore, IsCall}
use Rattle.lin_members.specs.declared.members.Path.{Path}
use Rattle.lin_members.specs.Exchanges.{Exchange, IsExchanged}
use Rattle.lin_members.specs.Members.{Member, Dominates, IsComplete, IsGiven, IsOnOffer, IsReady, Leads, Meets, Way}

-- an open update that was called before the event at this position, with a reply that it gives, and the state that it leads to with it
pub record IsEarlyUpdate {S : Type 0} (step : S → Call → S → Reply → Type 0) (observes : Call → Bool) (h : List Event) (until : ℕ) (x : ℕ × Reply) (next : S) : Type 0 where
  pub at : ℕ
  pub key : Item
  pub call : Call
  pub is_open : IsOpen h at x.0 key call
  pub update : observes call ≡ false
  pub early : at < until
  pub from : S
  pub steps : step from call next x.1

-- the state gives the reply to the open call of the process, which was called before the event at this position
abbrev pub IsEarlyGiven : {S : Type 0} → (S → Call → S → Reply → Type 0) → List Event → ℕ → S → ℕ × Reply → Type 0
IsEarlyGiven step h until state x = (given : IsGiven step h state x) × (given.at < until)

-- the placed operations with some early updates more
pub record HasOverwritten {S : Type 0} (step : S → Call → S → Reply → Type 0) (observes : Call → Bool) (h : List Event) (until : ℕ) (placed wider : List (ℕ × Reply)) : Type 0 where
  pub before : IsRising placed
  pub sorted : IsRising wider
  pub part : (x : ℕ × Reply) → Contains placed x → Contains wider x
  pub rest : (x : ℕ × Reply) → Contains wider x → Contains placed x ⊎ ((next : S) × IsEarlyUpdate step observes h until x next)

-- what is on offer with these: what was on offer, and what they give to observers that are as early
abbrev pub IsOfferedWith : {S : Type 0} → (S → Call → S → Reply → Type 0) → (Call → Bool) → List Event → Member S × Path → List (ℕ × Reply) → ℕ × Reply → Type 0
IsOfferedWith {S} step observes h m wider x = IsOnOffer m.0 x
    ⊎ ((u : ℕ × Reply) × (next : S) × Contains wider u × (Contains m.0.placed u → ⊥) × IsEarlyUpdate step observes h m.1.until u next × IsEarlyGiven step h m.1.until next x)

-- from one of the members, with early updates placed ahead of its last update, a way comes to a configuration that covers this one, once crashed
-- operations that have the same call are exchanged
pub record IsCoveredWith {S : Type 0} (step : S → Call → S → Reply → Type 0) (observes : Call → Bool) (h : List Event) (members : List (Member S × Path)) (c : S × List (ℕ × Reply)) : Type 0 where
  pub exchange : Exchange h
  pub placed : List (ℕ × Reply)
  pub exchanged : IsExchanged exchange c.1 placed
  pub member : Member S × Path
  pub among : Contains members member
  pub wider : List (ℕ × Reply)
  pub more : HasOverwritten step observes h member.1.until member.0.placed wider
  pub meets : Meets step observes h (member.0.state, wider) (IsOfferedWith step observes h member wider) c.0 placed

-- from the member, with early updates placed ahead of its last update, a way comes to a state and placed operations that, with observers that are
-- ready, are the configuration
pub record LeadsWith {S : Type 0} (step : S → Call → S → Reply → Type 0) (observes : Call → Bool) (h : List Event) (m : Member S × Path) (c : S × List (ℕ × Reply)) : Type 0 where
  pub wider : List (ℕ × Reply)
  pub more : HasOverwritten step observes h m.1.until m.0.placed wider
  pub placed : List (ℕ × Reply)
  pub way : Way step observes h (m.0.state, wider) (c.0, placed)
  pub before : IsRising placed
  pub rising : IsRising c.1
  pub part : (x : ℕ × Reply) → Contains placed x → Contains c.1 x
  pub each : (x : ℕ × Reply) → Contains c.1 x → Contains placed x ⊎ IsReady step observes h (IsOfferedWith step observes h m wider) (m.0.state, wider) (c.0, placed) way x

-- what the member leads to; where the object is overwritten, with overwritten updates
abbrev pub LeadsFor : {S : Type 0} → (S → Call → S → Reply → Type 0) → (Call → Bool) → Bool → List Event → Member S × Path → S × List (ℕ × Reply) → Type 0
LeadsFor step observes false h m c = Leads step observes h m.0 c
LeadsFor step observes true h m c = LeadsWith step observes h m c

-- each configuration of the history is
abbrev pub IsCompleteWith : {S : Type 0} → S → (S → Call → S → Reply → Type 0) → (Call → Bool) → List Event → List (Member S × Path) → Type 0
IsCompleteWith {S} start step observes h members = (c : S × List (ℕ × Reply)) → IsConfiguration start step h c → IsCoveredWith step observes h members c

-- the members lead to all configurations; where the object is overwritten, with overwritten updates
abbrev pub IsCompleteFor : {S : Type 0} → S → (S → Call → S → Reply → Type 0) → (Call → Bool) → Bool → List Event → List (Member S × Path) → Type 0
IsCompleteFor start step observes false h members = IsComplete start step observes h (map (λ m. m.0) members)
IsCompleteFor start step observes true h members = IsCompleteWith start step observes h members

-- the last round is not the first, it begins with an update, and nothing in it is before an operation that was called before the event at this position
pub record IsOverwrittenBy (observes : Call → Bool) (h : List Event) (until : ℕ) (rounds : List (List Placed)) : Type 0 where
  pub front : List (List Placed)
  pub first : Placed
  pub rest : List Placed
  pub is : rounds ≡ front ++ (first ∷ rest) ∷ []
  pub behind : 0 < length front
  pub call : Call
  pub begins : IsCall h first.at call
  pub update : observes call ≡ false
  pub late : (p : Placed) → Contains (first ∷ rest) p → (at : ℕ) → at < until → IsBefore h p.at at → ⊥

-- such updates can be placed ahead of the last round of the member, and no offer is from that round; where no update is early, this is nothing
pub record AllowsOverwritten {S : Type 0} (observes : Call → Bool) (h : List Event) (m : Member S × Path) (rounds : List (List Placed)) : Type 0 where
  pub within : m.1.until ≤ length h
  pub by : 0 < m.1.until → IsOverwrittenBy observes h m.1.until rounds
  pub earlier : 0 < m.1.until → (round : ℕ) (x : ℕ × Reply) → Contains m.0.offers (round, x) → suc round < length rounds

-- the one member dominates the other, and allows overwritten updates that were called as late
abbrev pub IsAbove : {S : Type 0} → (Call → Bool) → List Event → Member S × Path → Member S × Path → Type 0
IsAbove observes h m n = Dominates observes h m.0 n.0 × (n.1.until ≤ m.1.until)
