use Rattle.std.proofs.lemmas.Bool.Decides.{Decides-ltb}
use Rattle.lin_certificates.proofs.Deciding.{both, made, neither}
use Rattle.lin_certificates.proofs.operations.counts_within.Goals as goal

pub returns : goal.returns
returns c =
    made _ (both _ _ (both _ _ c.counts-may.ensures (Decides-ltb c.args.at c.args.places.1)) (neither _ c.is_before-over.ensures))
    (λ is. (is.0.0, is.0.1, is.1)) (λ is. ((is.0, is.1), is.2))
