-- What members of a frontier show where the object is overwritten, as it is gathered: cited by the contracts of private functions alone.
use Rattle.std.specs.Prelude.{◌≡◌, ℕ, Bool, true, false, List, ◌++◌, Contains, Option, map}
use Rattle.lin_events.specs.declared.items.Item.{Item}
use Rattle.lin_events.specs.declared.calls.Call.{Call}
use Rattle.lin_events.specs.declared.calls.Name.{Name}
use Rattle.lin_events.specs.declared.calls.Reply.{Reply}
use Rattle.lin_events.specs.declared.events.Event.{Event}
use Rattle.lin_events.specs.WellFormed.{IsWellFormed}
use Rattle.lin_order.specs.declared.placed.Placed.{Placed}
use Rattle.lin_frontier.specs.declared.pending.Open.{Open}
use Rattle.lin_frontier.specs.Frontiers.{IsPending}
use Rattle.lin_frontier.specs.Placing.{IsAbsent, PlacesOne, insert_pair}
use Rattle.lin_members.specs.declared.members.Path.{Path}
use Rattle.lin_members.specs.Compressed.{IsSpelled}
use Rattle.lin_members.specs.Listed.{config_of}
use Rattle.lin_members.specs.Members.{Member}

-- one of the members has the configuration
abbrev pub Has : {S : Type 0} → List (Member S × Path) → S × List (ℕ × Reply) → Type 0
Has members c = Contains (map config_of members) c

-- members were put last, and rounds lead to each of them where they lead to the one that these come from
pub record AreAdded {S : Type 0} (start : S) (step : S → Call → S → Reply → Type 0) (observes : Call → Bool) (pending : List Open) (m : Member S × Path) (first nodes : List (ℕ × (Placed × Option ℕ))) (old now : List (Member S × Path)) : Type 0 where
  pub added : List (Member S × Path)
  pub grown : now ≡ old ++ added
  pub spelled : (functions : Item → Name → Bool) (h : List Event) → IsWellFormed functions h → IsPending h pending → IsSpelled start step observes h first m
      → (n : Member S × Path) → Contains added n → IsSpelled start step observes h nodes n

-- what taking the offer makes of the member is there
abbrev pub IsTaken : {S : Type 0} → List Open → Member S × Path → List (Member S × Path) → ℕ × (ℕ × Reply) → Type 0
IsTaken pending m now x = (o : Open) → Contains pending o → o.process ≡ x.1.0 → IsAbsent x.1.0 m.0.placed → Has now (m.0.state, insert_pair x.1.0 x.1.1 m.0.placed)

-- what placing any of the operations makes of the configuration is there
abbrev pub ArePlaced : {S : Type 0} → (S → Call → S → Reply → Type 0) → List Open → S × List (ℕ × Reply) → List (Member S × Path) → Type 0
ArePlaced {S} step operations c now = (o : Open) (p : Placed) (d : S × List (ℕ × Reply)) → Contains operations o → PlacesOne step o c p d → Has now d

-- all that the member shows is there: itself, with each of its offers taken, with any open operation placed, and behind this any of the observers
pub record IsTold {S : Type 0} (step : S → Call → S → Reply → Type 0) (pending observers : List Open) (m : Member S × Path) (now : List (Member S × Path)) : Type 0 where
  pub own : Has now (config_of m)
  pub taken : (x : ℕ × (ℕ × Reply)) → Contains m.0.offers x → IsTaken pending m now x
  pub placed : ArePlaced step pending (config_of m) now
  pub behind : (o : Open) (p : Placed) (d : S × List (ℕ × Reply)) → Contains pending o → PlacesOne step o (config_of m) p d → ArePlaced step observers d now

-- of the operations those are there that observe and have not crashed
pub record AreWatching (observes : Call → Bool) (pending observers : List Open) : Type 0 where
  pub among : (o : Open) → Contains observers o → Contains pending o
  pub all : (o : Open) → Contains pending o → observes o.call ≡ true → o.crashed ≡ false → Contains observers o
