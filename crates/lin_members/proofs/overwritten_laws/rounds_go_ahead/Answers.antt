use Rattle.lin_members.proofs.GoingAhead.{ahead_law}
use Rattle.lin_members.proofs.overwritten_laws.rounds_go_ahead.Goals as goal

pub returns : goal.returns
returns g c = ahead_law _ _ c.well_formed_is_alternating.ensures
