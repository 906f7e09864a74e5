-- The event of a map whose parts are read.
use Rattle.std.proofs.Common.{◌≡◌, ℕ, ◌||◌, Option, Some, Result, Ok, Err, refl, ap, ◌∙◌}
use Rattle.lin_edn.specs.Value.{Value}
use Rattle.lin_names.specs.Spelled.{Spelled, numbered}
use Rattle.lin_history.specs.Reading.{Reading}
use Rattle.lin_history.specs.Table.{event_with, process_of, type_of, function_of, parts_said, body_of, or_fault, body_takes, is_named, IsAnswer}
use Rattle.lin_history.specs.inner.Fields.{IsMade}
use Rattle.lin_events.specs.declared.calls.Name.{Name}
use Rattle.lin_events.specs.declared.items.Item.{Item}
use Rattle.lin_events.specs.declared.events.Body.{Body}
use Rattle.lin_events.specs.declared.events.Event.{Event}
use Rattle.lin_history.specs.declared.table.EventType.{EventType}
use Rattle.lin_history.specs.declared.table.EventFault.{EventFault}
use Rattle.lin_history.specs.declared.table.EventFault.TheVariants.{NotAMap, DuplicateKey, Missing, BadProcess, BadType, BadFunction, BadKey, BadValue, OutOfMemory}

-- the event, once all but the body is read
abbrev pub with_body : ℕ → Item → Option Body → Result (Option Event) EventFault
with_body p key b = or_fault BadValue b (λ b. Ok (Some (record { process = p; key = key; body = b })))

abbrev pub IsReadUpToBody : Reading → Value → Value → Value → Value → ℕ → EventType → Name → Spelled × Value → Type 0
IsReadUpToBody m process type function v p t f parts =
    (process_of process ≡ Some p) × (type_of type ≡ Some t) × (function_of function ≡ Some f) × (parts_said m.keyed v ≡ Some parts)

pub up_to_body : (m : Reading) (process type function v : Value) (p : ℕ) (t : EventType) (f : Name) (parts : Spelled × Value) →
    IsReadUpToBody m process type function v p t f parts → event_with m process type function v ≡ with_body p (numbered m.number parts.0) (body_of m t f parts.1)
up_to_body m process type function v p t f parts (a, b, c, d) = rw (a, b, c, d) refl

-- a body that fails is the answer's fault
pub body_fails : (m : Reading) (process type function v : Value) (p : ℕ) (t : EventType) (f : Name) (parts : Spelled × Value) →
    IsReadUpToBody m process type function v p t f parts → (fault : EventFault) → IsMade body_takes (body_of m t f parts.1) (Err fault) →
    IsAnswer (event_with m process type function v) (Err fault)
body_fails m process type function v p t f parts h BadValue e = up_to_body m process type function v p t f parts h ∙ ap (with_body p (numbered m.number parts.0)) e
body_fails m process type function v p t f parts h OutOfMemory e = (
  record { process = p; key = numbered m.number parts.0; body = e.0 },
  up_to_body m process type function v p t f parts h ∙ ap (with_body p (numbered m.number parts.0)) e.1,
  ap (λ b. b || is_named (numbered m.number parts.0)) e.2,
)
body_fails m process type function v p t f parts h NotAMap e = absurd e
body_fails m process type function v p t f parts h DuplicateKey e = absurd e
body_fails m process type function v p t f parts h Missing e = absurd e
body_fails m process type function v p t f parts h BadProcess e = absurd e
body_fails m process type function v p t f parts h BadType e = absurd e
body_fails m process type function v p t f parts h BadFunction e = absurd e
body_fails m process type function v p t f parts h BadKey e = absurd e

-- a body that is made is the event's
pub body_made : (m : Reading) (process type function v : Value) (p : ℕ) (t : EventType) (f : Name) (parts : Spelled × Value) →
    IsReadUpToBody m process type function v p t f parts → (b : Body) → body_of m t f parts.1 ≡ Some b →
    event_with m process type function v ≡ Ok (Some (record { process = p; key = numbered m.number parts.0; body = b }))
body_made m process type function v p t f parts h b e = up_to_body m process type function v p t f parts h ∙ ap (with_body p (numbered m.number parts.0)) e
