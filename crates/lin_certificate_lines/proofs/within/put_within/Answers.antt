use Rattle.lin_certificate_lines.proofs.Stretches.{nothing_within}
use Rattle.lin_certificate_lines.proofs.within.put_within.Goals as goal

pub returns-in_default : goal.returns-in_default
returns-in_default c = nothing_within c.args.told.now c.args.places.0 c.args.places.1 c.args.text.now.items c.args.named.now.items c.args.calls c.in_default.not-Acquires c.in_default.not-Releases
