use Rattle.lin_members.proofs.Trailing.{trail_invocation_law, trail_info_law, trail_fail_law, trail_ok_law, trail_observer_law, trail_return_law}
use Rattle.lin_members.proofs.round_laws.rounds_after_events.Goals as goal

pub returns-clause-invocation : goal.returns-clause-invocation
returns-clause-invocation g c = trail_invocation_law _ _ c.well_formed_is_alternating.ensures c.configurations_after_events.ensures.invocation

pub returns-clause-info : goal.returns-clause-info
returns-clause-info g c = trail_info_law _ _ c.well_formed_is_alternating.ensures c.configurations_after_events.ensures.info

pub returns-clause-fail : goal.returns-clause-fail
returns-clause-fail g c = trail_fail_law _ _ c.well_formed_is_alternating.ensures c.configurations_after_events.ensures.fail

pub returns-clause-ok : goal.returns-clause-ok
returns-clause-ok g c = trail_ok_law _ _ c.well_formed_is_alternating.ensures c.configurations_after_events.ensures.ok

pub returns-clause-observer : goal.returns-clause-observer
returns-clause-observer g c = trail_observer_law _ _ c.well_formed_is_alternating.ensures c.configurations_after_events.ensures.ok

pub returns-clause-placed : goal.returns-clause-placed
returns-clause-placed g c = trail_return_law _ _ c.well_formed_is_alternating.ensures c.configurations_after_events.ensures.ok c.placing_is_legal.ensures
