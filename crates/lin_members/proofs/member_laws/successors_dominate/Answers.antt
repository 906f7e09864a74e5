use Rattle.lin_members.proofs.Searched.{successor_law, skipped_law}
use Rattle.lin_members.proofs.member_laws.successors_dominate.Goals as goal

pub returns-clause-successor : goal.returns-clause-successor
returns-clause-successor g c = successor_law _

pub returns-clause-skipped : goal.returns-clause-skipped
returns-clause-skipped g c = skipped_law _
