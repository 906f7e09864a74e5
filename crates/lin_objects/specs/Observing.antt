-- Calls that observe: they leave the object's state as it is.
use Rattle.std.specs.Prelude.{◌≡◌, Bool, true, false}
use Rattle.std.proofs.Common.{sym, true≢false}
use Rattle.lin_events.specs.declared.calls.Call.{Call}
use Rattle.lin_events.specs.declared.calls.Call.TheVariants.{Read}
use Rattle.lin_events.specs.declared.calls.Reply.{Reply}
use Rattle.lin_objects.specs.declared.kinds.Kind.{Kind}
use Rattle.lin_objects.specs.declared.kinds.Kind.TheVariants.{Register, CasRegister}
use Rattle.lin_objects.specs.declared.states.State.TheVariants.{Value}
use Rattle.lin_objects.specs.Steps.{Step}

-- each step on a call that observes ends in the state that it began in
abbrev pub IsObserving : {S : Type 0} → (S → Call → S → Reply → Type 0) → (Call → Bool) → Type 0
IsObserving {S} step observes = (state next : S) (call : Call) (reply : Reply) → observes call ≡ true → step state call next reply → state ≡ next

-- the calls that are treated as observers: the reads of registers
abbrev pub observes : Kind → Call → Bool
observes Register Read = true
observes CasRegister Read = true
observes _ _ = false

-- reads of registers leave the state as it is
pub observers_keep : (kind : Kind) → IsObserving (Step kind) (observes kind)
observers_keep Register (Value v) next Read reply o h = sym h.0
observers_keep CasRegister (Value v) next Read reply o h = sym h.0
observers_keep Register _ next Read reply o h = absurd h
observers_keep CasRegister _ next Read reply o h = absurd h
observers_keep _ _ next _ reply o h = absurd (true≢false (sym o))
