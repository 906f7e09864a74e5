use Rattle.lin_members.proofs.Allowing.{allows_on_law, allows_put_law, allows_begins_law}
use Rattle.lin_members.proofs.overwritten_laws.rounds_allow_overwritten.Goals as goal

pub returns-clause-on : goal.returns-clause-on
returns-clause-on g c = allows_on_law _

pub returns-clause-put : goal.returns-clause-put
returns-clause-put g c = allows_put_law _

pub returns-clause-begins : goal.returns-clause-begins
returns-clause-begins g c = allows_begins_law _
