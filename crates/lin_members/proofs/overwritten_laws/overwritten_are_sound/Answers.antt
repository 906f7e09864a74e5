use Rattle.lin_members.proofs.SoundingWith.{sound_with_law}
use Rattle.lin_members.proofs.overwritten_laws.overwritten_are_sound.Goals as goal

pub returns : goal.returns
returns g c = sound_with_law _ _ c.placing_is_legal.ensures c.well_formed_is_alternating.ensures
