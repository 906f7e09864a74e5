use Rattle.std.proofs.Common.{◌≡◌, ◌≤◌, ◌∙◌, ap, arith, length, not, take}
use Rattle.std.specs.Bool.{◌==◌}
use Rattle.std.specs.List.{prefix_len}
use Rattle.std.proofs.lemmas.List.{length-take}
use Rattle.std.proofs.lemmas.List.Folds.{length-prefix_len}
use Rattle.std.proofs.lemmas.List.Sums.{prefix_len-le-length}
use Rattle.lin_order.specs.declared.placed.Placed.{Placed}
use Rattle.lin_possibilities.proofs.after.ahead_of.Goals as goal

pub slice_bounds-result-end : goal.slice_bounds-result-end
slice_bounds-result-end c =
    let p = λ (p : Placed). not (p.at == c.args.call) in
    let few : prefix_len p c.args.order.now ≤ length c.args.order.now = prefix_len-le-length p c.args.order.now in
    let is = c.count_ahead.ensures ∙ length-prefix_len p c.args.order.now in
    let cut : c.count_ahead.result ≡ prefix_len p c.args.order.now = is in
    omega (arith, length-take c.count_ahead.result c.args.order.now)

pub returns : goal.returns
returns c =
    let p = λ (p : Placed). not (p.at == c.args.call) in
    ap (λ n. take n c.args.order.now) (c.count_ahead.ensures ∙ length-prefix_len p c.args.order.now)
