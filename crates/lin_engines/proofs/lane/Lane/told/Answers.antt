use Rattle.lin_engines.proofs.Lanes.{over_end}
use Rattle.std.proofs.Common.{subst}
use Rattle.lin_engines.specs.Lanes.{IsStanding}
use Rattle.lin_engines.proofs.lane.Lane.told.Goals as goal

pub returns-in-Over-clause-right : goal.returns-in-Over-clause-right
returns-in-Over-clause-right g c = λ h budget all lane enough.
    let stands = subst (IsStanding _ _ h _ _) c.in-Over.is lane.standing in
    over_end (g.E.Engine.kind c.args.self.now.engine) c.args.self.now.budget budget h c.in-Over.at (enough c.in-Over.at c.in-Over.is) stands.3
