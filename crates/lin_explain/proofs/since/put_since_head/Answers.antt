use Rattle.std.proofs.Common.{◌++◌, codes, decimal}
use Rattle.lin_explain.proofs.Texts.{three_put}
use Rattle.lin_explain.proofs.since.put_since_head.Goals as goal

pub returns : goal.returns
returns c =
    three_put c.args.text.now.items (codes "since event " ++ decimal c.args.at ++ codes ", before which nothing ran") c.args.was.now (codes " (! fails, ~ ran beside it, * is named above):\n")
    c.put_from.new.text.items c.extend_from_slice.new.self.items c.extend_from_slice-2.new.self.items
    c.in_ok-put_from.ensures c.in_ok-extend_from_slice.ensures.items c.in_ok-extend_from_slice-2.ensures.items
