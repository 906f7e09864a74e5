use Rattle.lin_members.proofs.Aboves.{above_law, complete_alone_law, none_overwritten_law}
use Rattle.lin_members.proofs.overwritten_laws.overwritten_can_go.Goals as goal

pub returns-clause-above : goal.returns-clause-above
returns-clause-above g c = above_law _ _

pub returns-clause-none : goal.returns-clause-none
returns-clause-none g c = none_overwritten_law _ _

pub returns-clause-alone : goal.returns-clause-alone
returns-clause-alone g c = complete_alone_law _ _
