use Rattle.lin_certificate_lines.specs.Surplus.{earlier_text, preceded_why, surplus_text}
use Rattle.lin_certificate_lines.proofs.Chains.{puts3}
use Rattle.lin_certificate_lines.proofs.surplus.put_preceded_lines.Goals as goal

pub returns : goal.returns
returns c =
    let told = c.args.told.now in
    let puts = c.args.surplus.now.puts.items in
    let takes = c.args.surplus.now.takes.items in
    let o = c.args.operations in
    puts3 c.args.text.now.items
    (preceded_why told o.0 o.1 c.args.item puts takes)
    (earlier_text told o.1 c.args.item c.args.early.now c.args.outs.now)
    (surplus_text told puts takes)
    _ _ _
    c.in_ok-put_preceded_why.ensures
    c.in_ok-put_earlier.ensures
    c.in_ok-put_surplus.ensures
