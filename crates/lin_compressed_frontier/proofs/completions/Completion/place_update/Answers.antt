use Rattle.std.proofs.Common.{sym, ◌∙◌}
use Rattle.lin_compressed_frontier.proofs.completions.Completion.place_update.Goals as goal

pub returns-clause-few : goal.returns-clause-few
returns-clause-few g c overwriting = c.in_ok-place_if_absent.ensures.few overwriting (sym c.observes.ensures ∙ c.if-observes.false)
