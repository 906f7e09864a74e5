use Rattle.std.proofs.Common.{map, subst, sym}
use Rattle.std.proofs.lemmas.List.Elements.{All-nil}
use Rattle.lin_program.specs.Reporting.{AreAmong}
use Rattle.lin_program.proofs.verify_from.Goals as goal

pub returns-in_err-text-clause-noted : goal.returns-in_err-text-clause-noted
returns-in_err-text-clause-noted g c = subst (AreAmong (map (λ n. n.now) c.args.files.now)) (sym c.requires.none) (All-nil _)
