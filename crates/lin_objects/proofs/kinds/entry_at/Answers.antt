use Rattle.std.proofs.Common.{◌∙◌}
use Rattle.lin_objects.proofs.Lookups.{lookup_by_order}
use Rattle.lin_objects.proofs.kinds.entry_at.Goals as goal

pub returns : goal.returns
returns c = c.copied.ensures ∙ c.get.ensures.value ∙ lookup_by_order c.args.named.now.entries c.args.key
