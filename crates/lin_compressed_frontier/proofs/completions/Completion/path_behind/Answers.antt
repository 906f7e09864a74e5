use Rattle.std.proofs.Common.{subst}
use Rattle.std.specs.Result.{IfOk}
use Rattle.lin_members.specs.Searching.{BeginsRound}
use Rattle.lin_compressed_frontier.proofs.completions.Completion.path_behind.Goals as goal

pub returns-clause-begins : goal.returns-clause-begins
returns-clause-begins g c = subst (λ p. IfOk c.put_behind.result (λ next. BeginsRound c.put_behind.new.nodes c.args.path next p)) c.in_ok-placed.ensures c.put_behind.ensures.begins
