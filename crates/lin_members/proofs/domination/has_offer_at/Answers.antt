use Rattle.std.proofs.Common.{rules}
use Rattle.lin_members.proofs.domination.has_offer_at.Goals as goal

pub returns-then-stands_at : goal.returns-then-stands_at
returns-then-stands_at g c = search rules

pub returns-else-stands_at : goal.returns-else-stands_at
returns-else-stands_at g c = search rules
