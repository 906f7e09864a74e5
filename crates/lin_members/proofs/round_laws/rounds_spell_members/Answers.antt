use Rattle.lin_members.proofs.Trailing.{trail_start_law, trail_ends_law, fewer_law}
use Rattle.lin_members.proofs.round_laws.rounds_spell_members.Goals as goal

pub returns-clause-start : goal.returns-clause-start
returns-clause-start g c = trail_start_law _ _ c.configurations_at_start.ensures

pub returns-clause-ends : goal.returns-clause-ends
returns-clause-ends g c = trail_ends_law _ _

pub returns-clause-fewer : goal.returns-clause-fewer
returns-clause-fewer g c = fewer_law _ _
