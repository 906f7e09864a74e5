use Rattle.std.proofs.Common.{List, ℕ, subst}
use Rattle.lin_history.specs.Rests.{IsWaiting, Knows}
use Rattle.lin_history.proofs.Reading.{rest_is}
use Rattle.lin_history.proofs.follow.read_anew.Goals as goal

pub returns-clause-held : goal.returns-clause-held
returns-clause-held c = (
  c.in_ok-read.ensures.within,
  subst (λ (l : List ℕ). Knows c.look_at.new.rest l) (rest_is c.args.held.now c.in_ok-read.read.used) c.look_at.ensures.known,
)

pub returns-clause-read : goal.returns-clause-read
returns-clause-read c = λ m is. (
  c.in_ok-read.ensures.read m is,
  subst (λ (l : List ℕ). IsWaiting m c.look_at.new.rest.row l) (rest_is c.args.held.now c.in_ok-read.read.used) (c.look_at.ensures.waits m),
)
