-- Frontiers: all configurations of a history that has one object, and how each was come by.
use Rattle.std.specs.Prelude.{◌≡◌, ◌≢◌, ◌↔◌, ◌+◌, ◌*◌, ℕ, Bool, List, length, All, AllPairs, Contains, IsTrue}
use Rattle.std.specs.Map.{keys_of}
use Rattle.lin_events.specs.declared.items.Item.{Item}
use Rattle.lin_events.specs.declared.events.Body.{Body}
use Rattle.lin_events.specs.declared.events.Body.TheVariants.{Invoke, Ok, Fail, Info}
use Rattle.lin_events.specs.declared.events.Event.{Event}
use Rattle.lin_events.specs.declared.calls.Call.{Call}
use Rattle.lin_events.specs.declared.calls.Name.{Name}
use Rattle.lin_events.specs.declared.calls.Reply.{Reply}
use Rattle.lin_events.specs.Operations.{IsCrashed, IsOpen}
use Rattle.lin_events.specs.WellFormed.{IsWellFormed}
use Rattle.lin_order.specs.declared.placed.Placed.{Placed}
use Rattle.lin_order.specs.ConfigurationLaws.{with_event}
use Rattle.lin_order.specs.Configurations.{EndsIn, IsConfiguration}
use Rattle.lin_frontier.specs.declared.pending.Open.{Open}
use Rattle.lin_frontier.specs.Nodes.{Spells}

-- exactly the operations that are open in the history, each once; marked are those that crashed
pub record IsPending (h : List Event) (pending : List Open) : Type 0 where
  pub once : AllPairs (λ o p. o.at ≢ p.at) pending
  pub sound : (o : Open) → Contains pending o → (key : Item) × IsOpen h o.at o.process key o.call
  pub complete : (at process : ℕ) (key : Item) (call : Call) → IsOpen h at process key call → (o : Open) × Contains pending o × (o.at ≡ at)
  pub crashed : (o : Open) → Contains pending o → IsTrue o.crashed ↔ IsCrashed h o.at

-- the event may come next: it stands at this position, the history with it is well-formed, and these operations are open before it
pub record IsNextEvent (functions : Item → Name → Bool) (h : List Event) (pending : List Open) (at : ℕ) (event : Event) : Type 0 where
  pub place : length h ≡ at
  pub well_formed : IsWellFormed functions (with_event h event)
  pub opened : IsPending h pending

-- exactly the configurations of the history, none twice, each with a node that spells a legal order that ends in it
pub record IsFrontier {S : Type 0} (start : S) (step : S → Call → S → Reply → Type 0) (h : List Event) (entries : List ((S × List (ℕ × Reply)) × ℕ)) (nodes : List (ℕ × Placed)) : Type 0 where
  pub sound : All (λ e. (order : List Placed) × Spells nodes e.1 order × EndsIn start step h order e.0) entries
  pub complete : (c : S × List (ℕ × Reply)) → IsConfiguration start step h c → Contains (keys_of entries) c
  pub distinct : AllPairs (λ a b. a.0 ≢ b.0) entries

-- how many calls may be tried at an event: at an invocation, for each configuration within the budget and one more, each operation
-- that is open then; at a completion none
abbrev pub tries_within : ℕ → ℕ → Body → ℕ
tries_within budget pending (Invoke call) = (budget + 1) * (pending + 1)
tries_within budget pending (Ok name reply) = 0
tries_within budget pending (Fail name) = 0
tries_within budget pending (Info name) = 0
