-- Listing all configurations that members lead to: words of private contracts. Members that are listed have nothing on offer; what may be
-- taken on the ways between them is said apart.
use Rattle.std.specs.Prelude.{◌≡◌, ◌≢◌, ◌⊎◌, ℕ, Bool, true, false, length, List, map, [], ◌++◌, All, AllPairs, Contains, Option, Some, None}
use Rattle.lin_events.specs.declared.items.Item.{Item}
use Rattle.lin_events.specs.declared.calls.Call.{Call}
use Rattle.lin_events.specs.declared.calls.Name.{Name}
use Rattle.lin_events.specs.declared.calls.Reply.{Reply}
use Rattle.lin_events.specs.declared.events.Event.{Event}
use Rattle.lin_events.specs.WellFormed.{IsWellFormed}
use Rattle.lin_order.specs.declared.placed.Placed.{Placed}
use Rattle.lin_members.specs.declared.members.Path.{Path}
use Rattle.lin_frontier.specs.declared.pending.Open.{Open}
use Rattle.lin_members.specs.Compressed.{IsCovering, IsSpelled}
use Rattle.lin_frontier.specs.Frontiers.{IsPending}
use Rattle.lin_members.specs.Members.{Member, IsListing}
use Rattle.lin_frontier.specs.Nodes.{IsGrown}
use Rattle.lin_frontier.specs.Placing.{IsAbsent, PlacesOne, insert_pair}
use Rattle.lin_members.specs.Searching.{BeginsRound, DominatesIn, IsNodeOf}

-- the configuration as a member that has these offers
abbrev pub member_at : {S : Type 0} → S × List (ℕ × Reply) → List (ℕ × (ℕ × Reply)) → Member S
member_at c offers = record { state = c.0; placed = c.1; offers = offers }

-- the member with these offers in place of its own
abbrev pub with_offers : {S : Type 0} → List (ℕ × (ℕ × Reply)) → Member S × Path → Member S × Path
with_offers offers m = (member_at (m.0.state, m.0.placed) offers, m.1)

-- the configuration of the member
abbrev pub config_of : {S : Type 0} → Member S × Path → S × List (ℕ × Reply)
config_of m = (m.0.state, m.0.placed)

-- no two members have one configuration
abbrev pub AreDifferent : {S : Type 0} → List (Member S × Path) → Type 0
AreDifferent {S} members = AllPairs (λ (m n : Member S × Path). config_of m ≢ config_of n) members

-- the path goes on by the operation, put in the round, or behind all where none is given
abbrev pub Continues : List (ℕ × (Placed × Option ℕ)) → Path → Path → Placed → Option ℕ → Type 0
Continues nodes path next p None = BeginsRound nodes path next p
Continues nodes path next p (Some round) = (next.round ≡ path.round) × IsNodeOf nodes next.node path.node (p, Some round)

-- one of the members has the state, and no more placed but what crashed
abbrev pub IsHeld : {S : Type 0} → (Call → Bool) → List Open → List (Member S × Path) → S × List (ℕ × Reply) → Type 0
IsHeld {S} observes pending members c = (n : Member S × Path) × Contains members n × DominatesIn observes pending n.0 c.0 c.1 []

-- the members with the configuration, unless one of them held it
pub record IsTakenIn {S : Type 0} (observes : Call → Bool) (pending : List Open) (c : S × List (ℕ × Reply)) (p : Placed) (spot : Option ℕ) (path : Path) (nodes : List (ℕ × (Placed × Option ℕ))) (old now : List (Member S × Path)) : Type 0 where
  pub added : List (Member S × Path)
  pub grown : now ≡ old ++ added
  pub new : All (λ n. (n.0 ≡ member_at c []) × Continues nodes path n.1 p spot) added
  pub different : AreDifferent old → AreDifferent now
  pub held : IsHeld observes pending now c

-- members with nothing on offer were added, and rounds lead to these where they led to those before, on whose ways the offers may be taken
pub record IsExtended {S : Type 0} (start : S) (step : S → Call → S → Reply → Type 0) (observes : Call → Bool) (pending : List Open) (offers : List (ℕ × (ℕ × Reply))) (first nodes : List (ℕ × (Placed × Option ℕ))) (old now : List (Member S × Path)) : Type 0 where
  pub nodes_grown : IsGrown first nodes
  pub added : List (Member S × Path)
  pub grown : now ≡ old ++ added
  pub bare : All (λ n. n.0.offers ≡ []) added
  pub different : AreDifferent old → AreDifferent now
  pub spelled : (functions : Item → Name → Bool) (h : List Event) → IsWellFormed functions h → IsPending h pending
      → All (λ m. IsSpelled start step observes h first (with_offers offers m)) old → All (λ m. IsSpelled start step observes h nodes (with_offers offers m)) now

-- what taking the offer makes of the configuration is held
abbrev pub IsTakenAt : {S : Type 0} → (Call → Bool) → List Open → List (Member S × Path) → S × List (ℕ × Reply) → ℕ × (ℕ × Reply) → Type 0
IsTakenAt observes pending members c x = (o : Open) → Contains pending o → o.process ≡ x.1.0 → IsAbsent x.1.0 c.1 → IsHeld observes pending members (c.0, insert_pair x.1.0 x.1.1 c.1)

-- what placing any open operation makes of it is held
abbrev pub IsPlacedAt : {S : Type 0} → (S → Call → S → Reply → Type 0) → (Call → Bool) → List Open → List (Member S × Path) → S × List (ℕ × Reply) → Type 0
IsPlacedAt {S} step observes pending members c = (o : Open) (p : Placed) (d : S × List (ℕ × Reply)) → Contains pending o → PlacesOne step o c p d → IsHeld observes pending members d

-- of each member all that is taken, and, where wanted, placed, is held
abbrev pub AreWorkedOff : {S : Type 0} → (S → Call → S → Reply → Type 0) → (Call → Bool) → List Open → List (ℕ × (ℕ × Reply)) → Bool → List (Member S × Path) → Type 0
AreWorkedOff {S} step observes pending offers places members = (m : Member S × Path) → Contains members m
    → All (IsTakenAt observes pending members (m.0.state, m.0.placed)) offers × (places ≡ true → IsPlacedAt step observes pending members (m.0.state, m.0.placed))

-- how many calls may be tried in one configuration
abbrev pub placing_tries : Bool → List Open → ℕ
placing_tries true pending = length pending
placing_tries false pending = 0

-- the members with those of the others of which none of them held the configuration
pub record IsMerged {S : Type 0} (observes : Call → Bool) (pending : List Open) (others old now : List (Member S × Path)) : Type 0 where
  pub kept : (m : Member S × Path) → Contains old m → Contains now m
  pub from : (m : Member S × Path) → Contains now m → Contains old m ⊎ Contains others m
  pub different : AreDifferent old → AreDifferent now
  pub held : (m : Member S × Path) → Contains others m → IsHeld observes pending now (m.0.state, m.0.placed)

-- the members cover each configuration of the history themselves; they have nothing on offer, and each is led to by rounds
pub record IsListingOf {S : Type 0} (start : S) (step : S → Call → S → Reply → Type 0) (observes : Call → Bool) (h : List Event) (members : List (Member S × Path)) (nodes : List (ℕ × (Placed × Option ℕ))) : Type 0 where
  pub listing : IsListing start step h (map (λ m. m.0) members)
  pub spelled : (m : Member S × Path) → Contains members m → IsSpelled start step observes h nodes m

-- a listing covers all configurations: each of its members leads to its own
abbrev pub ListingCoversLaw : {S : Type 0} → S → (S → Call → S → Reply → Type 0) → Type 0
ListingCoversLaw {S} start step = (observes : Call → Bool) (h : List Event) (members : List (Member S × Path)) (nodes : List (ℕ × (Placed × Option ℕ)))
    → IsListingOf start step observes h members nodes → IsCovering start step observes false h members nodes
