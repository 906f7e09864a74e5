use Rattle.std.proofs.lemmas.Bool.Decides.{Decides-eqb}
use Rattle.lin_certificates.proofs.Deciding.{both, made, neither}
use Rattle.lin_certificates.proofs.operations.may_take_ahead.Goals as goal

pub returns : goal.returns
returns c =
    made _ (both _ _ (both _ _ (both _ _ (neither _ (Decides-eqb c.args.at c.args.dequeue)) c.counts-may.ensures) (neither _ c.is_answered_so-nothing.ensures)) (neither _ c.comes_before-behind.ensures))
    (λ is. (is.0.0.0, is.0.0.1, is.0.1, is.1))
    (λ is. (((is.0, is.1), is.2), is.3))
