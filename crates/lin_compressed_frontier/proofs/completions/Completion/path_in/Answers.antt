use Rattle.std.proofs.Common.{subst, Some}
use Rattle.std.specs.Result.{IfOk}
use Rattle.lin_members.specs.Searching.{IsNodeOf}
use Rattle.lin_compressed_frontier.proofs.completions.Completion.path_in.Goals as goal

pub returns-clause-node : goal.returns-clause-node
returns-clause-node g c = subst (λ p. IfOk c.in_round.result (λ next. IsNodeOf c.in_round.new.nodes next.node c.args.path.node (p, Some c.args.round))) c.in_ok-placed.ensures c.in_round.ensures.node
