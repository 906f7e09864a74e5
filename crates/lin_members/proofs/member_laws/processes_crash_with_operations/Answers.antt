use Rattle.lin_members.specs.lemmas.Crashes.{crashed_law}
use Rattle.lin_members.proofs.member_laws.processes_crash_with_operations.Goals as goal

pub returns : goal.returns
returns c = crashed_law c.ends_are_unique.ensures c.well_formed_is_alternating.ensures
