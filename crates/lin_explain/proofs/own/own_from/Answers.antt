use Rattle.std.proofs.Common.{◌≡◌, ◌≤◌, ap, arith, length, subst, sym}
use Rattle.std.proofs.lemmas.List.{length-take-le}
use Rattle.lin_order.specs.Parts.{part}
use Rattle.lin_explain.proofs.Passing.{part_within}
use Rattle.lin_explain.proofs.own.own_from.Goals as goal

pub returns-clause-few : goal.returns-clause-few
returns-clause-few c =
    let count = c.args.count in
    let events = c.into_events-events.result.items in
    let left = c.truncate.new.self.items in
    let kept = ap length c.keep_own.ensures in
    let few = part_within c.args.key left in
    let cut = ap length c.truncate.ensures.items in
    let within : count ≤ length events = subst (λ l. count ≤ length l) (sym c.into_events-events.ensures) c.requires.within in
    let size = length-take-le count events within in
    omega (arith, kept, few, cut, size)
