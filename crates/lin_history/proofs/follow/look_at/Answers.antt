use Rattle.std.proofs.Common.{[]}
use Rattle.lin_history.proofs.follow.look_at.Goals as goal

pub returns-clause-known : goal.returns-clause-known
returns-clause-known c = (λ e. c.go_on-rest.ensures.seen e [] c.clear.ensures, c.begin_row.ensures.begun)

pub returns-clause-waits : goal.returns-clause-waits
returns-clause-waits c = c.begin_row.ensures.waits
