use Rattle.std.proofs.Common.{◌∙◌}
use Rattle.lin_configurations.proofs.gathered.Gathered.push.Goals as goal

pub put-requires-clause-of : goal.put-requires-clause-of
put-requires-clause-of g c = c.in_ok-config.ensures ∙ c.config.ensures
