use Rattle.std.proofs.Common.{subst, sym, take}
use Rattle.lin_order.specs.Linearizable.{IsLegalOrderAs}
use Rattle.lin_engines.specs.Exacts.{kind_of_exact}
use Rattle.lin_chain.specs.Chains.{IsBeside}
use Rattle.lin_chain.proofs.Chaining.{alive_reached}
use Rattle.lin_chain.proofs.beside.Beside.order.Goals as goal

pub returns-in_ok-order-in-Exact-clause-legal : goal.returns-in_ok-order-in-Exact-clause-legal
returns-in_ok-order-in-Exact-clause-legal c = λ kind h was.
    let is = subst (IsBeside kind h) c.in-Exact.is was in
    let all = alive_reached _ _ h _ _ c.args.count _ (c.is_alive.ensures.0 c.if-is_alive.true) is.1.standing in
    subst (λ k. IsLegalOrderAs k (take c.args.count h) c.in_ok-order-in-Exact.field-0.items) is.0
    (subst (λ n. IsLegalOrderAs (kind_of_exact c.in-Exact.lane.engine) (take n h) c.in_ok-order-in-Exact.field-0.items) all (c.in_ok-order-in-Exact.ensures h is.1))
