use Rattle.lin_events.specs.lemmas.Rising.{rising_with, has_member, same_sets}
use Rattle.lin_events.proofs.lists.sets.Goals as goal

pub returns-clause-rising : goal.returns-clause-rising
returns-clause-rising c = rising_with

pub returns-clause-members : goal.returns-clause-members
returns-clause-members c = has_member

pub returns-clause-same : goal.returns-clause-same
returns-clause-same c = same_sets
