use Rattle.std.proofs.Common.{subst}
use Rattle.lin_certificates.specs.Certificates.{HasSource}
use Rattle.lin_certificate_lines.proofs.registers.first_over.Goals as goal

pub latest_of-requires-clause-some : goal.latest_of-requires-clause-some
latest_of-requires-clause-some c = subst (HasSource c.args.told.now.events.now c.args.operation) c.in-Nil.is c.requires.holds.source
