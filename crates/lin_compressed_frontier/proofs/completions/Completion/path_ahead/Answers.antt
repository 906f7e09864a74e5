use Rattle.std.proofs.Common.{subst}
use Rattle.std.specs.Result.{IfOk}
use Rattle.lin_members.specs.Asking.{IsAheadOf}
use Rattle.lin_compressed_frontier.proofs.completions.Completion.path_ahead.Goals as goal

pub returns-clause-ahead : goal.returns-clause-ahead
returns-clause-ahead g c = subst (λ p. IfOk c.put_ahead.result (λ next. IsAheadOf c.put_ahead.new.nodes c.args.path next p)) c.in_ok-placed.ensures c.put_ahead.ensures.ahead
