use Rattle.std.proofs.Common.{◌++◌, codes}
use Rattle.lin_tables.proofs.Letters.{put_ok}
use Rattle.lin_tables.proofs.Listed.{first_told}
use Rattle.lin_tables.proofs.values.put_told.Goals as goal

pub returns : goal.returns
returns c =
    put_ok c.extend_from_slice-2.result c.extend_from_slice-2.new.self.items (c.put_number.new.line.items ++ codes " in all") c.put_number.new.line.items _ c.extend_from_slice-2.ensures.items
    (first_told c.args.wording c.args.names.now c.args.items.now c.args.line.now.items c.put_each-2.new.line.items c.extend_from_slice.new.self.items c.put_number.new.line.items
    c.if-items-le-TOLD.false c.in_ok-put_each.ensures c.in_ok-extend_from_slice.ensures.items c.in_ok-put_number.ensures)
