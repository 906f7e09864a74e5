use Rattle.std.proofs.Common.{refl, sym, ◌∙◌, map}
use Rattle.lin_edn.specs.Value.{values_of}
use Rattle.lin_edn.specs.View.{view}
use Rattle.lin_history.proofs.Collections.{members_there}
use Rattle.lin_history.proofs.table.members_in.Goals as goal

pub returns-in-Err-clause-reply : goal.returns-in-Err-clause-reply
returns-in-Err-clause-reply c = λ m agrees. members_there m _ (values_of (map view c.args.elements.now)) refl (sym (c.are_items.ensures m) ∙ c.if-not-are_items.false)
