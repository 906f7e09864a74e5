use Rattle.std.proofs.Common.{subst, IfSome}
use Rattle.lin_engines.specs.Ends.{IsEndOf}
use Rattle.lin_chain.specs.Chains.{IsBeside}
use Rattle.lin_chain.proofs.Chaining.{exact_not_over}
use Rattle.lin_chain.proofs.beside.Beside.told.Goals as goal

pub returns-in-Exact-clause-right : goal.returns-in-Exact-clause-right
returns-in-Exact-clause-right c = λ kind h budget all was.
    let is = subst (IsBeside kind h) c.in-Exact.is was in
    subst (λ k. IfSome c.told.result (IsEndOf k budget h)) is.0 (c.told.ensures.right h budget all is.1 (λ at over. absurd (exact_not_over _ at is.1.may over)))
