-- Rounds: the order by which a member is come to, as a list of lists. A round begins with a placed operation, the first one with nothing, and each
-- observer that returns with a reply that was on offer is put at the end of the round whose state gave it. An update that the last one overwrote
-- becomes a round ahead of that.
use Rattle.std.specs.Prelude.{◌≡◌, ℕ, zero, suc, ◌<◌, cond, nat_lt, Bool, true, List, [], ◌∷◌, ◌++◌, length, Contains, Option, Some, None, slice_get}
use Rattle.lin_events.specs.declared.items.Item.{Item}
use Rattle.lin_events.specs.declared.calls.Call.{Call}
use Rattle.lin_events.specs.declared.calls.Reply.{Reply}
use Rattle.lin_events.specs.declared.events.Event.{Event}
use Rattle.lin_events.specs.Operations.{IsOpen}
use Rattle.lin_order.specs.declared.placed.Placed.{Placed}
use Rattle.lin_order.specs.Configurations.{IsPlacedBy}
use Rattle.lin_order.specs.Linearizable.{Runs}
use Rattle.lin_order.specs.Orders.{IsBefore, IsOrder}
use Rattle.lin_members.specs.Members.{Member}

-- the order that the rounds spell
abbrev pub joined : List (List Placed) → List Placed
joined [] = []
joined (round ∷ rounds) = round ++ joined rounds

-- with one more operation at the end of a round
abbrev pub put : ℕ → Placed → List (List Placed) → List (List Placed)
put k p [] = []
put zero p (round ∷ rounds) = (round ++ p ∷ []) ∷ rounds
put (suc k) p (round ∷ rounds) = round ∷ put k p rounds

-- with the operation as a round of its own ahead of the last one
abbrev pub ahead : Placed → List (List Placed) → List (List Placed)
ahead p [] = []
ahead p (round ∷ []) = (p ∷ []) ∷ round ∷ []
ahead p (round ∷ next ∷ rounds) = round ∷ ahead p (next ∷ rounds)

-- with one more operation at the end of the round, or, where there is no such round, ahead of the last one
abbrev pub place : ℕ → Placed → List (List Placed) → List (List Placed)
place k p rounds = cond (nat_lt k (length rounds)) (put k p rounds) (ahead p rounds)

-- with a new round that begins with the operation
abbrev pub begin_round : Placed → List (List Placed) → List (List Placed)
begin_round p rounds = rounds ++ (p ∷ []) ∷ []

-- nodes that share their beginnings: each has its parent, its operation, and the round into which it is put, or none if it begins one behind all
-- others. Node 0 spells one empty round, and node k + 1 what its parent spells and its operation
pub data SpellsRounds (nodes : List (ℕ × (Placed × Option ℕ))) : ℕ → List (List Placed) → Type 0 where
  root : SpellsRounds nodes 0 ([] ∷ [])
  begins : {k parent : ℕ} {rounds : List (List Placed)} {p : Placed} → slice_get nodes k ≡ Some (parent, (p, None)) → SpellsRounds nodes parent rounds → SpellsRounds nodes (suc k) (begin_round p rounds)
  puts : {k parent round : ℕ} {rounds : List (List Placed)} {p : Placed} → slice_get nodes k ≡ Some (parent, (p, Some round)) → SpellsRounds nodes parent rounds → SpellsRounds nodes (suc k) (place round p rounds)

-- an object runs through the rounds to the last state, each round from the state of the one before to its own
abbrev pub RunsBy : {S : Type 0} → (S → Call → S → Reply → Type 0) → List Event → S → List S → List (List Placed) → S → Type 0
RunsBy step h from [] [] to = from ≡ to
RunsBy step h from (state ∷ states) (round ∷ rounds) to = Runs step h from round state × RunsBy step h state states rounds to
RunsBy step h from [] (round ∷ rounds) to = ⊥
RunsBy step h from (state ∷ states) [] to = ⊥

-- the state of the round gives the reply to the open observer of the process, and nothing in a later round is before that in real time
pub record IsOfferedIn {S : Type 0} (step : S → Call → S → Reply → Type 0) (observes : Call → Bool) (h : List Event) (states : List S) (rounds : List (List Placed)) (round at : ℕ) (x : ℕ × Reply) : Type 0 where
  pub key : Item
  pub call : Call
  pub is_open : IsOpen h at x.0 key call
  pub observer : observes call ≡ true
  pub state : S
  pub there : slice_get states round ≡ Some state
  pub next : S
  pub steps : step state call next x.1
  pub late : (j : ℕ) (later : List Placed) → round < j → slice_get rounds j ≡ Some later → (p : Placed) → Contains later p → IsBefore h p.at at → ⊥

-- the rounds, of which each ends in its state, spell a legal order that ends in the configuration
pub record IsTrail {S : Type 0} (start : S) (step : S → Call → S → Reply → Type 0) (h : List Event) (states : List S) (rounds : List (List Placed)) (c : S × List (ℕ × Reply)) : Type 0 where
  pub begun : 0 < length rounds
  pub order_of : IsOrder h (joined rounds)
  pub runs : RunsBy step h start states rounds c.0
  pub placed : IsPlacedBy h (joined rounds) c.1

-- they do so for the member, and each of its offers was made in its round
pub record IsTrailOf {S : Type 0} (start : S) (step : S → Call → S → Reply → Type 0) (observes : Call → Bool) (h : List Event) (states : List S) (rounds : List (List Placed)) (m : Member S) : Type 0 where
  pub trail : IsTrail start step h states rounds (m.state, m.placed)
  pub offered : (round : ℕ) (x : ℕ × Reply) → Contains m.offers (round, x) → (at : ℕ) × IsOfferedIn step observes h states rounds round at x
