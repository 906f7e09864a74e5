use Rattle.std.specs.Prelude.{◌≡◌, ◌&&◌, true}
use Rattle.std.proofs.Common.{refl, sym, ap, ◌∙◌}
use Rattle.lin_events.specs.Sameness.{item_itself}
use Rattle.lin_events.specs.Replies.{call_same, val_itself}
use Rattle.lin_events.specs.declared.calls.Call.{Call}
use Rattle.lin_events.specs.declared.calls.Call.TheVariants as call
use Rattle.lin_events.specs.contracts.calls.CallPartialEq.TheImpl as CallImpl
use Rattle.lin_events.specs.contracts.calls.ValPartialEq.TheImpl as ValImpl
use Rattle.lin_configurations.proofs.branches.is_of.Goals as goal

call_itself : (x : Call) → CallImpl.ghosts.eq x x ≡ true
call_itself call.Read = refl
call_itself (call.Write a) = val_itself a
call_itself (call.Cas a b) = ap (λ t. t && ValImpl.ghosts.eq b b) (val_itself a) ∙ val_itself b
call_itself (call.Enqueue a) = item_itself a
call_itself call.Dequeue = refl
call_itself (call.Add a) = item_itself a
call_itself call.Acquire = refl
call_itself call.Release = refl

pub returns : goal.returns
returns c = (
  λ h. call_same c.args.operation.now.call c.args.call.now (sym c.eq.ensures ∙ h),
  λ e. c.eq.ensures ∙ ap (λ x. CallImpl.ghosts.eq x c.args.call.now) e ∙ call_itself c.args.call.now,
)
