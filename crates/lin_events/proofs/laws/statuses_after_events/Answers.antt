use Rattle.lin_events.specs.lemmas.StatusLemmas.{status_of_last, status_kept}
use Rattle.lin_events.proofs.laws.statuses_after_events.Goals as goal

pub returns-clause-decided : goal.returns-clause-decided
returns-clause-decided c = status_of_last

pub returns-clause-others : goal.returns-clause-others
returns-clause-others c = status_kept
