use Rattle.std.proofs.Common.{◌≡◌, arith, subst, sym}
use Rattle.std.specs.List.{remove}
use Rattle.std.proofs.lemmas.Grind.{common_steps}
use Rattle.lin_objects.specs.Bags.{NeverFalls}
use Rattle.lin_objects.specs.lemmas.Bags.{falls_but}
use Rattle.lin_objects.proofs.bags.IntBag.without.Goals as goal

pub invariant_of-result : goal.invariant_of-result
invariant_of-result c =
    let left : c.in_ok-items.items ≡ remove c.args.self.now c.args.at = grind (arith, common_steps) in
    subst NeverFalls (sym left) (falls_but c.args.self.now c.args.at c.as_slice.ensures.ordered)
