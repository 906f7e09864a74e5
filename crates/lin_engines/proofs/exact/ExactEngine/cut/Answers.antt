use Rattle.std.proofs.Common.{subst}
use Rattle.lin_engines.specs.Exacts.{SeesExact}
use Rattle.lin_engines.proofs.Exacts.{intervals_cut}
use Rattle.lin_engines.proofs.exact.ExactEngine.cut.Goals as goal

pub returns-in-Set-clause-right : goal.returns-in-Set-clause-right
returns-in-Set-clause-right c = λ h edited seen same. intervals_cut c.in-Set.intervals c.cut.new.self h edited c.args.place (c.cut.ensures.told h) c.cut.ensures.reached same (subst (λ e. SeesExact e h) c.in-Set.is seen)
