use Rattle.lin_objects.proofs.Stepping as Law
use Rattle.lin_objects.proofs.laws.replies_decide.Goals as goal

pub returns : goal.returns
returns c = Law.replies_decide
