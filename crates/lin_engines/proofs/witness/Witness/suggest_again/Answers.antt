use Rattle.lin_engines.proofs.Growing.{same_hint}
use Rattle.lin_engines.proofs.witness.Witness.suggest_again.Goals as goal

pub returns-in_err-push : goal.returns-in_err-push
returns-in_err-push c = same_hint c.args.self.now c.push.new.self

pub returns-in_ok-push : goal.returns-in_ok-push
returns-in_ok-push c = same_hint c.args.self.now c.push.new.self
