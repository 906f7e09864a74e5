use Rattle.std.proofs.Common.{codes}
use Rattle.lin_certificate_lines.specs.Surplus.{surplus_text, surplus_why}
use Rattle.lin_certificate_lines.proofs.Chains.{puts3}
use Rattle.lin_certificate_lines.proofs.surplus.put_remaining_lines.Goals as goal

pub returns : goal.returns
returns c =
    let told = c.args.told.now in
    let puts = c.args.surplus.now.puts.items in
    let takes = c.args.surplus.now.takes.items in
    puts3 c.args.text.now.items
    (surplus_why told c.args.dequeue puts takes)
    (codes "it returned\n")
    (surplus_text told puts takes)
    _ _ _
    c.in_ok-put_surplus_why.ensures
    c.in_ok-extend_from_slice.ensures.items
    c.in_ok-put_surplus.ensures
