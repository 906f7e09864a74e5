use Rattle.std.proofs.Common.{codes, decimal}
use Rattle.lin_explain.specs.Counts.{open_in}
use Rattle.lin_explain.specs.Yes.{placed_in}
use Rattle.lin_explain.proofs.Texts.{five_put}
use Rattle.lin_explain.proofs.yes.put_places.Goals as goal

pub returns : goal.returns
returns c =
    let h = c.args.present.now.history in
    five_put c.args.text.now.items (codes "a legal order places ") (decimal (placed_in c.args.key h c.args.order.now)) (codes " of the ") (decimal (open_in c.args.key h)) (codes " open ones\n")
    c.extend_from_slice.new.self.items c.put_placed.new.text.items c.extend_from_slice-2.new.self.items c.put_open.new.text.items c.extend_from_slice-3.new.self.items
    c.in_ok-extend_from_slice.ensures.items c.in_ok-put_placed.ensures c.in_ok-extend_from_slice-2.ensures.items c.in_ok-put_open.ensures c.in_ok-extend_from_slice-3.ensures.items
