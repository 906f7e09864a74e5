-- What one more event makes of the configurations of a history that has one object. Each law holds for any object, given by where it
-- begins and which steps it takes, and speaks of well-formed histories.
use Rattle.std.specs.Prelude.{◌≡◌, ◌↔◌, ℕ, Bool, List, [], ◌∷◌, ◌++◌, Contains, take}
use Rattle.lin_events.specs.declared.items.Item.{Item}
use Rattle.lin_events.specs.declared.events.Body.TheVariants.{Invoke, Ok, Fail, Info}
use Rattle.lin_events.specs.declared.events.Event.{Event}
use Rattle.lin_events.specs.declared.calls.Call.{Call}
use Rattle.lin_events.specs.declared.calls.Name.{Name}
use Rattle.lin_events.specs.declared.calls.Reply.{Reply}
use Rattle.lin_events.specs.WellFormed.{IsWellFormed}
use Rattle.lin_order.specs.declared.placed.Placed.{Placed}
use Rattle.lin_order.specs.Linearizable.{IsLegalOrderBy, IsLinearizableBy}
use Rattle.lin_order.specs.Configurations.{EndsIn, IsConfiguration, IsAdded, IsPlacing, IsPlacedOn}

-- the history with one more event
abbrev pub with_event : List Event → Event → List Event
with_event h event = h ++ event ∷ []

-- the empty history has one configuration: the start, with nothing placed. The empty order ends in it
abbrev pub AtStart : {S : Type 0} → S → (S → Call → S → Reply → Type 0) → Type 0
AtStart {S} start step = EndsIn start step [] [] (start, []) × ((c : S × List (ℕ × Reply)) → IsConfiguration start step [] c → c ≡ (start, []))

-- placing an open operation makes a legal order of a legal order
abbrev pub PlacingIsLegal : {S : Type 0} → S → (S → Call → S → Reply → Type 0) → Type 0
PlacingIsLegal {S} start step = (h : List Event) (order : List Placed) (c d : S × List (ℕ × Reply)) (p : Placed)
    → EndsIn start step h order c → IsPlacing step h c p d → EndsIn start step h (order ++ p ∷ []) d

-- after an invocation: legal orders stay so, and each configuration is one from before on which open operations were placed
pub record AfterInvocation {S : Type 0} (start : S) (step : S → Call → S → Reply → Type 0) (h : List Event) (event : Event) : Type 0 where
  pub stays : (order : List Placed) (c : S × List (ℕ × Reply)) → EndsIn start step h order c → EndsIn start step (with_event h event) order c
  pub reached : (c : S × List (ℕ × Reply)) → IsConfiguration start step (with_event h event) c
      → (b : S × List (ℕ × Reply)) × (order : List Placed) × IsConfiguration start step h b × IsPlacedOn step (with_event h event) b order c
  -- one in which the new operation has no place is one from before
  pub old : (c : S × List (ℕ × Reply)) → IsConfiguration start step (with_event h event) c → ((reply : Reply) → Contains c.1 (event.process, reply) → ⊥) → IsConfiguration start step h c

abbrev pub InvocationLaw : {S : Type 0} → S → (S → Call → S → Reply → Type 0) → Type 0
InvocationLaw start step = (functions : Item → Name → Bool) (h : List Event) (event : Event) (call : Call) → event.body ≡ Invoke call
    → IsWellFormed functions (with_event h event) → AfterInvocation start step h event

-- after an ok: the configurations in which the operation is placed with this reply, without it
pub record AfterOk {S : Type 0} (start : S) (step : S → Call → S → Reply → Type 0) (h : List Event) (event : Event) (reply : Reply) : Type 0 where
  pub kept : (order : List Placed) (c : S × List (ℕ × Reply)) (placed : List (ℕ × Reply)) → EndsIn start step h order (c.0, placed) → IsAdded event.process reply c.1 placed
      → EndsIn start step (with_event h event) order c
  pub was : (order : List Placed) (c : S × List (ℕ × Reply)) → EndsIn start step (with_event h event) order c
      → (placed : List (ℕ × Reply)) × EndsIn start step h order (c.0, placed) × IsAdded event.process reply c.1 placed

abbrev pub OkLaw : {S : Type 0} → S → (S → Call → S → Reply → Type 0) → Type 0
OkLaw start step = (functions : Item → Name → Bool) (h : List Event) (event : Event) (name : Name) (reply : Reply) → event.body ≡ Ok name reply
    → IsWellFormed functions (with_event h event) → AfterOk start step h event reply

-- after a fail: the configurations in which the operation isn't placed
abbrev pub FailLaw : {S : Type 0} → S → (S → Call → S → Reply → Type 0) → Type 0
FailLaw {S} start step = (functions : Item → Name → Bool) (h : List Event) (event : Event) (name : Name) → event.body ≡ Fail name → IsWellFormed functions (with_event h event)
    → (order : List Placed) (c : S × List (ℕ × Reply))
    → EndsIn start step (with_event h event) order c ↔ (EndsIn start step h order c × ((reply : Reply) → Contains c.1 (event.process, reply) → ⊥))

-- after an info: the same ones
abbrev pub InfoLaw : {S : Type 0} → S → (S → Call → S → Reply → Type 0) → Type 0
InfoLaw {S} start step = (functions : Item → Name → Bool) (h : List Event) (event : Event) (name : Name) → event.body ≡ Info name → IsWellFormed functions (with_event h event)
    → (order : List Placed) (c : S × List (ℕ × Reply)) → EndsIn start step (with_event h event) order c ↔ EndsIn start step h order c

-- each legal order ends in a configuration, so a history has one exactly when it is linearizable
abbrev pub LegalOrdersEnd : {S : Type 0} → S → (S → Call → S → Reply → Type 0) → Type 0
LegalOrdersEnd {S} start step = (functions : Item → Name → Bool) (h : List Event) (order : List Placed) → IsWellFormed functions h
    → IsLegalOrderBy start step h order → (c : S × List (ℕ × Reply)) × EndsIn start step h order c

-- each prefix of a linearizable history is linearizable
abbrev pub PrefixesAreLinearizableBy : {S : Type 0} → S → (S → Call → S → Reply → Type 0) → Type 0
PrefixesAreLinearizableBy start step = (h : List Event) (n : ℕ) → IsLinearizableBy start step h → IsLinearizableBy start step (take n h)
