use Rattle.std.proofs.Common.{ap, ◌∙◌}
use Rattle.std.specs.Map.{lookup}
use Rattle.lin_events.specs.Items.{item_eq}
use Rattle.lin_objects.proofs.Lookups.{lookup-insert_entry}
use Rattle.lin_objects.proofs.kinds.put_entry.Goals as goal

pub returns-clause-entries : goal.returns-clause-entries
returns-clause-entries c = λ x. ap (lookup (item_eq x)) c.in_ok-insert.ensures.entries ∙ lookup-insert_entry c.args.named.now.entries c.args.key x c.args.kind
