use Rattle.std.proofs.Common.{inl, inr, refl}
use Rattle.lin_program.proofs.LineOrders.{refused_anyway}
use Rattle.lin_program.proofs.refused_orders.find_refusal.Goals as goal

pub returns-in-Whole-clause-found : goal.returns-in-Whole-clause-found
returns-in-Whole-clause-found g c =
    let read = rw c.in-Whole.is at c.in_ok-history.ensures.read in
    (c.read_history.new.names, c.names_are_apart.ensures, (read.0, read.1, read.2, read.3, inr (c.in-Whole.field-0.items, read.4.0, c.requires.order)))

pub returns-clause-found : goal.returns-clause-found
returns-clause-found g c =
    let read = rw c.in-Refused.is at c.in_ok-history.ensures.read in (
      c.read_history.new.names,
      c.names_are_apart.ensures,
      (
        read.0,
        read.1,
        read.2,
        read.3,
        inl (c.in-Refused.refusal, refl, refused_anyway c.args.settings.keyed c.read_history.new.names read.0 c.in-Refused.refusal read.4),
      ),
    )
