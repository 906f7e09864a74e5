use Rattle.lin_members.proofs.Lasting.{place_law, leads_on_law}
use Rattle.lin_members.proofs.member_laws.members_lead_on.Goals as goal

pub returns-clause-places : goal.returns-clause-places
returns-clause-places g c = place_law _ c.well_formed_is_alternating.ensures

pub returns-clause-invocation : goal.returns-clause-invocation
returns-clause-invocation g c = leads_on_law _
