use Rattle.lin_members.proofs.Lasting.{invocation_keeps_law, info_keeps_law, fail_keeps_law}
use Rattle.lin_members.proofs.member_laws.members_after_events.Goals as goal

pub returns-clause-invocation : goal.returns-clause-invocation
returns-clause-invocation g c = invocation_keeps_law _ _ c.well_formed_is_alternating.ensures c.configurations_after_events.ensures.invocation

pub returns-clause-info : goal.returns-clause-info
returns-clause-info g c = info_keeps_law _ _ c.well_formed_is_alternating.ensures c.configurations_after_events.ensures.info

pub returns-clause-fail : goal.returns-clause-fail
returns-clause-fail g c = fail_keeps_law _ _ c.well_formed_is_alternating.ensures c.ends_are_unique.ensures c.configurations_after_events.ensures.fail
