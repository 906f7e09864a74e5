use Rattle.lin_certificate_lines.proofs.Deciding.{both}
use Rattle.lin_certificate_lines.proofs.groups.is_between.Goals as goal

pub returns : goal.returns
returns c = both _ _ c.overwrites-over.ensures c.comes_before-before.ensures
