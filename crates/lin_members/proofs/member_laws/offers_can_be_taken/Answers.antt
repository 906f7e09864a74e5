use Rattle.lin_members.specs.lemmas.Spreading.{spreading_law}
use Rattle.lin_members.proofs.member_laws.offers_can_be_taken.Goals as goal

pub returns : goal.returns
returns g c = spreading_law _ _
