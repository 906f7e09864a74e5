use Rattle.lin_members.proofs.Trailing.{trail_places_law, trail_takes_law}
use Rattle.lin_members.proofs.round_laws.rounds_take_operations.Goals as goal

pub returns-clause-places : goal.returns-clause-places
returns-clause-places g c = trail_places_law _ _ c.well_formed_is_alternating.ensures c.placing_is_legal.ensures

pub returns-clause-takes : goal.returns-clause-takes
returns-clause-takes g c = trail_takes_law _ _ c.well_formed_is_alternating.ensures
