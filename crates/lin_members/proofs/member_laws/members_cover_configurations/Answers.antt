use Rattle.lin_members.proofs.Listing.{listing_law, listed_law, listing_ok_law}
use Rattle.lin_members.proofs.member_laws.members_cover_configurations.Goals as goal

pub returns-clause-listing : goal.returns-clause-listing
returns-clause-listing g c = listing_law _ _ c.well_formed_is_alternating.ensures

pub returns-clause-listed : goal.returns-clause-listed
returns-clause-listed g c = listed_law _ _

pub returns-clause-ok : goal.returns-clause-ok
returns-clause-ok g c = listing_ok_law _ _ c.ends_are_unique.ensures c.well_formed_is_alternating.ensures c.configurations_after_events.ensures.ok
