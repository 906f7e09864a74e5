use Rattle.lin_members.proofs.Asked.{observer_with_law}
use Rattle.lin_members.proofs.overwritten_laws.overwritten_after_observer.Goals as goal

pub returns : goal.returns
returns g c = observer_with_law _ _ c.ends_are_unique.ensures c.well_formed_is_alternating.ensures c.configurations_after_events.ensures.ok
