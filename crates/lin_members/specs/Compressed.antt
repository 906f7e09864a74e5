-- Compressed frontiers: few members that lead to all configurations of a history that has one object, up to crashed operations.
use Rattle.std.specs.Prelude.{◌≡◌, ℕ, suc, Bool, true, List, length, AllPairs, Contains, Option}
use Rattle.lin_events.specs.declared.calls.Call.{Call}
use Rattle.lin_events.specs.declared.calls.Reply.{Reply}
use Rattle.lin_events.specs.declared.events.Event.{Event}
use Rattle.lin_order.specs.declared.placed.Placed.{Placed}
use Rattle.lin_order.specs.Configurations.{IsConfiguration}
use Rattle.lin_order.specs.Linearizable.{IsLegalOrderBy}
use Rattle.lin_members.specs.declared.members.Path.{Path}
use Rattle.lin_members.specs.Members.{Member}
use Rattle.lin_members.specs.Overwritten.{AllowsOverwritten, IsAbove, IsCompleteFor, LeadsFor}
use Rattle.lin_members.specs.Rounds.{joined, SpellsRounds, IsTrailOf}

-- the path's node spells rounds that lead to the member, and the path's round is the last one
pub record IsSpelled {S : Type 0} (start : S) (step : S → Call → S → Reply → Type 0) (observes : Call → Bool) (h : List Event) (nodes : List (ℕ × (Placed × Option ℕ))) (m : Member S × Path) : Type 0 where
  pub states : List S
  pub rounds : List (List Placed)
  pub spelled : SpellsRounds nodes m.1.node rounds
  pub last : suc m.1.round ≡ length rounds
  pub trail : IsTrailOf start step observes h states rounds m.0

-- each configuration, once crashed operations that have the same call are exchanged, is covered by one that a member leads to, and each
-- member is led to by rounds; where the object is overwritten, overwritten updates can be placed in these
pub record IsCovering {S : Type 0} (start : S) (step : S → Call → S → Reply → Type 0) (observes : Call → Bool) (overwriting : Bool) (h : List Event) (members : List (Member S × Path)) (nodes : List (ℕ × (Placed × Option ℕ))) : Type 0 where
  pub complete : IsCompleteFor start step observes overwriting h members
  pub spelled : (m : Member S × Path) → Contains members m → IsSpelled start step observes h nodes m
  pub overwritten : overwriting ≡ true → (m : Member S × Path) → Contains members m → (rounds : List (List Placed)) → SpellsRounds nodes m.1.node rounds → AllowsOverwritten observes h m rounds

-- and no member is above another
pub record IsCompressed {S : Type 0} (start : S) (step : S → Call → S → Reply → Type 0) (observes : Call → Bool) (overwriting : Bool) (h : List Event) (members : List (Member S × Path)) (nodes : List (ℕ × (Placed × Option ℕ))) : Type 0 where
  pub covering : IsCovering start step observes overwriting h members nodes
  pub apart : AllPairs (λ m n. (IsAbove observes h m n → ⊥) × (IsAbove observes h n m → ⊥)) members

-- each configuration that the member leads to is one of the history
abbrev pub LeadsWithin : {S : Type 0} → S → (S → Call → S → Reply → Type 0) → (Call → Bool) → Bool → List Event → Member S × Path → Type 0
LeadsWithin {S} start step observes overwriting h m = (c : S × List (ℕ × Reply)) → LeadsFor step observes overwriting h m c → IsConfiguration start step h c

-- each member's node spells rounds that are a legal order
abbrev pub CompressedSpellLegalOrders : {S : Type 0} → S → (S → Call → S → Reply → Type 0) → (Call → Bool) → Bool → Type 0
CompressedSpellLegalOrders {S} start step observes overwriting = (h : List Event) (members : List (Member S × Path)) (nodes : List (ℕ × (Placed × Option ℕ))) → IsCompressed start step observes overwriting h members nodes
    → (m : Member S × Path) → Contains members m → (rounds : List (List Placed)) × SpellsRounds nodes m.1.node rounds × IsLegalOrderBy start step h (joined rounds)
