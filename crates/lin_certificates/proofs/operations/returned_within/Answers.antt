use Rattle.std.proofs.Common.{inl, inr, arith}
use Rattle.std.proofs.lemmas.Bool.{cases_lt}
use Rattle.std.proofs.lemmas.Bool.Decides.{Decides-ltb}
use Rattle.lin_certificates.proofs.Deciding.{both, made, neither}
use Rattle.lin_certificates.proofs.operations.returned_within.Goals as goal

pub returns : goal.returns
returns c =
    made _ (both _ _ (both _ _ c.is_answered_so-made.ensures (neither _ (Decides-ltb c.args.at c.args.places.0))) c.is_before-before.ensures)
    (λ is. (
      is.0.0,
      elim (cases_lt c.args.at c.args.places.0) [
        | inl less ↦ absurd (is.0.1 less)
        | inr more ↦ more
      ],
      is.1,
    ))
    (λ is. ((is.0, λ less. let more = is.1 in omega (arith, less, more)), is.2))
