use Rattle.lin_members.proofs.Searched.{start_complete_law}
use Rattle.lin_members.proofs.member_laws.start_is_complete.Goals as goal

pub returns : goal.returns
returns g c = start_complete_law _ _ c.configurations_at_start.ensures
