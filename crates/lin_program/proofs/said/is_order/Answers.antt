use Rattle.std.proofs.Common.{◌≡◌, true, ap, is_ok, sym, subst}
use Rattle.lin_texts.specs.Orders.{order_written}
use Rattle.lin_names.specs.Names.{AreEachOnce, number_of}
use Rattle.lin_program.proofs.LineOrders.{written_where_read}
use Rattle.lin_program.proofs.said.is_order.Goals as goal

pub returns-in-Ok-clause-is : goal.returns-in-Ok-clause-is
returns-in-Ok-clause-is c =
    let names = c.read_order.new.names in
    let agrees = c.names_grow.ensures.agree names (subst AreEachOnce c.names.view_is c.names.invariant) in
    let written = written_where_read (number_of names) (order_written c.as_bytes.result.now) (ap is_ok (c.in-Ok.ensures.read (number_of names) agrees)) in
    sym (subst (λ text. is_ok (order_written text) ≡ true) c.as_bytes.ensures.value written)
