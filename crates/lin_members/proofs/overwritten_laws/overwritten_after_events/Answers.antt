use Rattle.lin_members.proofs.LastingWith.{fail_with_law, info_with_law, invocation_with_law}
use Rattle.lin_members.proofs.overwritten_laws.overwritten_after_events.Goals as goal

pub returns-clause-invocation : goal.returns-clause-invocation
returns-clause-invocation g c = invocation_with_law _ _ c.well_formed_is_alternating.ensures c.configurations_after_events.ensures.invocation

pub returns-clause-info : goal.returns-clause-info
returns-clause-info g c = info_with_law _ _ c.well_formed_is_alternating.ensures c.configurations_after_events.ensures.info

pub returns-clause-fail : goal.returns-clause-fail
returns-clause-fail g c = fail_with_law _ _ c.well_formed_is_alternating.ensures c.ends_are_unique.ensures c.configurations_after_events.ensures.fail
