use Rattle.std.proofs.Common.{◌+◌, ap, arith, Ok, sym, subst}
use Rattle.std.proofs.lemmas.List.{length-take-le, take-take}
use Rattle.lin_objects.specs.declared.kinds.Kind.TheVariants.{Fifo}
use Rattle.lin_order.specs.Linearizable.{IsLinearizableAs}
use Rattle.lin_search.proofs.witness.find_debt.Goals as goal

pub returns-in-Fails-clause-inside : goal.returns-in-Fails-clause-inside
returns-in-Fails-clause-inside c =
    let within = c.in_ok-at.ensures.inside c.in-Fails.at (ap Ok c.in-Fails.is) in
    let size = length-take-le c.args.until c.args.events.now c.requires in
    omega (arith, within, size)

pub returns-in-Fails-clause-refuted : goal.returns-in-Fails-clause-refuted
returns-in-Fails-clause-refuted c functions formed linear =
    let events = c.args.events.now in
    let until = c.args.until in
    let at = c.in-Fails.at in
    let within = c.in_ok-at.ensures.inside at (ap Ok c.in-Fails.is) in
    let size = length-take-le until events c.requires in
    c.in_ok-at.ensures.failing at (ap Ok c.in-Fails.is) functions (c.beginnings_are_well_formed.ensures functions events until formed)
    (subst (IsLinearizableAs Fifo) (sym (take-take (at + 1) until events (omega (arith, within, size)))) linear)
