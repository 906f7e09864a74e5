use Rattle.std.proofs.Common.{sym, subst}
use Rattle.lin_order.specs.Tables.{MarksEachOk}
use Rattle.lin_order.specs.lemmas.Lists.{no_since}
use Rattle.lin_order.specs.lemmas.Assembling.{order_from, order_names, order_keeps, order_marks}
use Rattle.lin_order.proofs.orders.check_order.Goals as goal

pub returns-in_default : goal.returns-in_default
returns-in_default c =
    let h = c.args.events.now in
    let order = c.args.order.now in
    let none = rw c.in_default.is at c.in_ok-marks.ensures in
    no_since (λ legal. let is = legal.order_of in none (order_names h order is, is.once, order_keeps h order is, is.real_time, legal.legal))

pub returns : goal.returns
returns c =
    let h = c.args.events.now in
    let order = c.args.order.now in
    let found = rw c.in-Some.is at c.in_ok-marks.ensures in
    let fits = found.0 in (
      λ yes'.
          let each = subst (MarksEachOk h) c.deref-3.ensures.value (c.marks_each_ok.ensures.0 yes') in
          record { order_of = order_from h order c.in-Some.marks.items fits.0 fits.1 found.1 fits.2 each fits.3; legal = fits.4 },
      λ legal. c.marks_each_ok.ensures.1 (subst (MarksEachOk h) (sym c.deref-3.ensures.value) (order_marks h order legal.order_of c.in-Some.marks.items found.1)),
    )
