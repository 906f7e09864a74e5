use Rattle.lin_objects.proofs.Stepping as Law
use Rattle.lin_objects.proofs.laws.steps_are_allowed.Goals as goal

pub returns : goal.returns
returns c = Law.steps_are_allowed
