use Rattle.std.proofs.Common.{codes, decimal}
use Rattle.lin_explain.proofs.Texts.{three_put}
use Rattle.lin_explain.proofs.since.put_from.Goals as goal

pub returns : goal.returns
returns c =
    three_put c.args.text.now.items (codes "since event ") (decimal c.args.at) (codes ", before which nothing ran")
    c.extend_from_slice.new.self.items c.put_number.new.line.items c.extend_from_slice-2.new.self.items
    c.in_ok-extend_from_slice.ensures.items c.in_ok-put_number.ensures c.in_ok-extend_from_slice-2.ensures.items
