use Rattle.lin_members.proofs.Searched.{offers_go_law}
use Rattle.lin_members.proofs.member_laws.ended_offers_go.Goals as goal

pub returns : goal.returns
returns g c = offers_go_law _ c.well_formed_is_alternating.ensures
