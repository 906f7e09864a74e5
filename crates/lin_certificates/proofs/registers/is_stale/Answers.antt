use Rattle.std.proofs.Common.{◌≡◌, true, sym, subst, ◌∙◌}
use Rattle.lin_events.specs.Replies.{val_itself, val_same}
use Rattle.lin_events.specs.contracts.calls.ValPartialEq.TheImpl as ValImpl
use Rattle.lin_certificates.proofs.Deciding.{both, made, neither}
use Rattle.lin_certificates.proofs.registers.is_stale.Goals as goal

pub returns : goal.returns
returns c =
    let v = c.args.needed.1 in
    let w = c.args.shown.1 in
    let differ = neither c.eq-same.result ((λ yes'. val_same v w (sym c.eq-same.ensures ∙ yes')), λ same. c.eq-same.ensures ∙ subst (λ x. ValImpl.ghosts.eq v x ≡ true) same (val_itself v)) in
    made _ (both _ _ (both _ _ (both _ _ (both _ _ differ c.is_among-needs.ensures) c.is_among-touches.ensures) c.comes_before-before.ensures) c.all_ahead-ahead.ensures)
    (λ is. record { differ = is.0.0.0.0; needed = is.0.0.0.1; touched = is.0.0.1; in_time = is.0.1; each = is.1 })
    (λ is. ((((is.differ, is.needed), is.touched), is.in_time), is.each))
