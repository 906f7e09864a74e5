use Rattle.std.proofs.Common.{get_or, arith, ap, length, take}
use Rattle.std.proofs.lemmas.List.{length-take}
use Rattle.std.proofs.lemmas.Option.{slice_get_within}
use Rattle.lin_session.proofs.kept.Object.order.Goals as goal

pub rename-requires : goal.rename-requires
rename-requires c = λ k d within.
    let h = c.requires.right.0 in
    let told = rw c.in-Some.is at c.in_ok-order.ensures in
    let legal = told.1 h c.requires.right.2 in
    let o = legal.order_of.operations k d within in
    let inside = slice_get_within (take c.len.result h) (get_or c.in-Some.order.items k d).at _ o.1.2 in
    omega (arith, inside, length-take c.len.result h, c.requires.right.1, ap length c.deref.ensures.value)
