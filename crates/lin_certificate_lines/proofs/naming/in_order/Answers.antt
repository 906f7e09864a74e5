use Rattle.std.proofs.lemmas.List.Filters.{dedup_is}
use Rattle.lin_certificate_lines.proofs.AllListed.{sorted_once}
use Rattle.lin_certificate_lines.proofs.naming.in_order.Goals as goal

pub returns : goal.returns
returns c = sorted_once c.args.named.items c.sort_unstable.new.self.items c.dedup.new.self.items
    c.sort_unstable.ensures.permutation c.sort_unstable.ensures.sorted (dedup_is _ _ _ c.dedup.ensures.filtered)
