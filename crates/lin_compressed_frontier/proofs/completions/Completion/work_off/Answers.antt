use Rattle.lin_compressed_frontier.proofs.completions.Completion.work_off.Goals as goal

pub returns-in_ok-updates-in-Some-clause-placed : goal.returns-in_ok-updates-in-Some-clause-placed
returns-in_ok-updates-in-Some-clause-placed g c = rw c.config.ensures at c.in_ok-updates-in-Some.ensures.placed
