use Rattle.lin_certificate_lines.proofs.Deciding.{both}
use Rattle.lin_certificate_lines.proofs.groups.overwrites.Goals as goal

pub returns : goal.returns
returns c = both _ _ c.returned-made.ensures c.is_before-before.ensures
