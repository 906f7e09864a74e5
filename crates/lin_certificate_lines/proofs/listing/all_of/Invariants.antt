use Rattle.lin_certificate_lines.specs.Groups.{IsInGroup}
use Rattle.lin_certificate_lines.proofs.AllListed.{ListsBelow}
use Rattle.lin_certificate_lines.proofs.listing.all_of.Given as goal

abbrev pub invariant-loop-at : goal.invariant-loop-at
invariant-loop-at l = ListsBelow (IsInGroup l.told.events.now l.group) l.at l.list.items
