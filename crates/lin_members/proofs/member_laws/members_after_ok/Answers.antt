use Rattle.lin_members.proofs.Searched.{observer_search_law, update_search_law}
use Rattle.lin_members.proofs.member_laws.members_after_ok.Goals as goal

pub returns-clause-observer : goal.returns-clause-observer
returns-clause-observer g c = observer_search_law _ _ c.ends_are_unique.ensures c.well_formed_is_alternating.ensures c.configurations_after_events.ensures.ok

pub returns-clause-update : goal.returns-clause-update
returns-clause-update g c = update_search_law _ _ c.ends_are_unique.ensures c.well_formed_is_alternating.ensures c.configurations_after_events.ensures.ok
