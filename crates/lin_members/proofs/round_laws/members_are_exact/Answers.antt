use Rattle.lin_members.proofs.Trailing.{exact_law}
use Rattle.lin_members.proofs.Sounding.{sound_law}
use Rattle.lin_members.proofs.round_laws.members_are_exact.Goals as goal

pub returns-clause-sound : goal.returns-clause-sound
returns-clause-sound g c = sound_law _ _ c.placing_is_legal.ensures c.well_formed_is_alternating.ensures

pub returns-clause-exact : goal.returns-clause-exact
returns-clause-exact g c = exact_law _ _
