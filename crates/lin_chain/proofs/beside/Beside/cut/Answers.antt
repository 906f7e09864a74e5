use Rattle.std.proofs.Common.{◌∙◌, subst}
use Rattle.lin_chain.specs.Chains.{IsBeside}
use Rattle.lin_chain.proofs.beside.Beside.cut.Goals as goal

pub returns-in-Exact-clause-right : goal.returns-in-Exact-clause-right
returns-in-Exact-clause-right c = λ kind h edited was same.
    let is = subst (IsBeside kind h) c.in-Exact.is was in
    (c.cut.ensures.kind ∙ is.0, c.cut.ensures.right h edited is.1 same)
