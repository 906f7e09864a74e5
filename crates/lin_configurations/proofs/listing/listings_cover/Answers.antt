use Rattle.lin_configurations.proofs.ListedCompressed.{listing_covers}
use Rattle.lin_configurations.proofs.listing.listings_cover.Goals as goal

pub returns : goal.returns
returns g c = listing_covers _ _ c.members_cover_configurations.ensures.listed
