use Rattle.std.proofs.Common.{◌++◌, refl}
use Rattle.lin_history.proofs.Resting.{gone_on}
use Rattle.lin_history.proofs.follow.go_on.Goals as goal

pub returns-clause-seen : goal.returns-clause-seen
returns-clause-seen c = λ text known. gone_on c.go_on-rest.result (record { means = c.args.rest.now.means; skim = c.go_on-rest.new.self; is_seen = c.go_on-rest.result; row = c.args.rest.now.row }) (text ++ c.args.piece.now) refl
    (λ e. c.go_on-rest.ensures.seen e text (known c.if-not-rest.false))
