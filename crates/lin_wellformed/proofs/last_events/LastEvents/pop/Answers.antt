use Rattle.std.proofs.Common.{subst}
use Rattle.lin_wellformed.specs.Tables.{AreLast}
use Rattle.lin_wellformed.proofs.TableLemmas.{popped_last}
use Rattle.lin_wellformed.proofs.last_events.LastEvents.pop.Goals as goal

pub invariant_of-self : goal.invariant_of-self
invariant_of-self c = popped_last c.self.inside.last.items c.pop.new.self.items c.in-Some.change (subst (AreLast c.self.inside.last.items) c.in-Some.ensures.items c.self.invariant)
