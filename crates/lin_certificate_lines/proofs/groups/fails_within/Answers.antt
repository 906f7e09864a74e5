use Rattle.std.proofs.lemmas.Bool.Decides.{Decides-ltb}
use Rattle.lin_certificate_lines.proofs.Deciding.{both, made, neither}
use Rattle.lin_certificate_lines.proofs.groups.fails_within.Goals as goal

pub returns : goal.returns
returns c =
    made _ (both _ _ (both _ _ c.fails-failed.ensures (Decides-ltb c.args.at c.args.places.1)) (neither _ c.ends_before-over.ensures))
    (λ is. (is.0.0, is.0.1, is.1)) (λ is. ((is.0, is.1), is.2))
