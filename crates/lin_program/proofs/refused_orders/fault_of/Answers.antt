use Rattle.std.proofs.Common.{ap, is_ok, subst}
use Rattle.lin_texts.specs.Orders.{order_written}
use Rattle.lin_names.specs.Names.{AreEachOnce, number_of}
use Rattle.lin_program.proofs.LineOrders.{written_where_read}
use Rattle.lin_program.proofs.refused_orders.fault_of.Goals as goal

pub returns-in-Ok : goal.returns-in-Ok
returns-in-Ok c =
    let names = c.read_order.new.names in
    let agrees = c.names_grow.ensures.agree names (subst AreEachOnce c.names.view_is c.names.invariant) in
    written_where_read (number_of names) (order_written c.args.text.now) (ap is_ok (c.in-Ok.ensures.read (number_of names) agrees))
