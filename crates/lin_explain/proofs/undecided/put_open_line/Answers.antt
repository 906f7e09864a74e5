use Rattle.std.proofs.Common.{codes, decimal}
use Rattle.lin_explain.proofs.Texts.{five_put}
use Rattle.lin_explain.proofs.undecided.put_open_line.Goals as goal

pub returns : goal.returns
returns c =
    five_put c.args.text.now.items (codes "operations open then: ") (decimal c.args.running) (codes ", crashed of them: ") (decimal c.args.crashed) (codes "\n")
    c.extend_from_slice.new.self.items c.put_number.new.line.items c.extend_from_slice-2.new.self.items c.put_number-2.new.line.items c.extend_from_slice-3.new.self.items
    c.in_ok-extend_from_slice.ensures.items c.in_ok-put_number.ensures c.in_ok-extend_from_slice-2.ensures.items c.in_ok-put_number-2.ensures c.in_ok-extend_from_slice-3.ensures.items
