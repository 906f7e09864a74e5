use Rattle.lin_history.proofs.Feeding.{sees_nothing}
use Rattle.lin_history.proofs.follow.Follow.new.Goals as goal

pub returns-clause-sees : goal.returns-clause-sees
returns-clause-sees c = λ m is. rw (c.new.ensures.items, c.none.ensures, c.new-2.ensures.items) (sees_nothing m c.args.keyed is)
