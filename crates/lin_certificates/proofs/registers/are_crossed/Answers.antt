use Rattle.std.proofs.Common.{◌≡◌, true, sym, subst, ◌∙◌}
use Rattle.lin_events.specs.declared.calls.Val.TheVariants.{Item as Held}
use Rattle.lin_events.specs.Replies.{val_itself, val_same}
use Rattle.lin_events.specs.contracts.calls.ValPartialEq.TheImpl as ValImpl
use Rattle.lin_certificates.proofs.Deciding.{both, made, neither}
use Rattle.lin_certificates.proofs.registers.are_crossed.Goals as goal

pub returns : goal.returns
returns c =
    let v = c.args.value in
    let w = Held c.args.item in
    let differ = neither c.eq-same.result ((λ yes'. val_same v w (sym c.eq-same.ensures ∙ yes')), λ same. c.eq-same.ensures ∙ subst (λ x. ValImpl.ghosts.eq v x ≡ true) same (val_itself v)) in
    made _ (both _ _ (both _ _ differ c.is_left_ahead-in_turn.ensures) c.is_ahead-again.ensures) (λ is. record { differ = is.0.0; in_turn = is.0.1; again = is.1 }) (λ is. ((is.differ, is.in_turn), is.again))
