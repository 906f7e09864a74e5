use Rattle.std.proofs.Common.{rules}
use Rattle.lin_members.proofs.domination.is_above.Goals as goal

pub returns-then-path : goal.returns-then-path
returns-then-path g c = search rules

pub returns-else-path : goal.returns-else-path
returns-else-path g c = search rules
