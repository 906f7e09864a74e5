-- One more event: which calls are invoked as before.
use Rattle.std.proofs.Common.{◌≡◌, ℕ, List, [], ◌∷◌, ◌++◌, length}
use Rattle.lin_events.specs.declared.calls.Call.{Call}
use Rattle.lin_events.specs.declared.events.Event.{Event}
use Rattle.lin_events.specs.lemmas.OneMore.{operation_kept, operation_before}
use Rattle.lin_order.specs.Orders.{IsCall}

module _ (h : List Event) (event : Event) where
  pub call_kept : (at : ℕ) (call : Call) → IsCall h at call → IsCall (h ++ event ∷ []) at call
  call_kept at call is = (is.0, is.1, operation_kept h event at is.0 is.1 call is.2)

  pub call_before : (at : ℕ) (call : Call) → (at ≡ length h → ⊥) → IsCall (h ++ event ∷ []) at call → IsCall h at call
  call_before at call other is = (is.0, is.1, operation_before h event at is.0 is.1 call other is.2)
