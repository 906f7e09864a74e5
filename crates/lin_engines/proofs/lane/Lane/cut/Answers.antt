use Rattle.std.proofs.Common.{◌≡◌, ◌≤◌, arith, sym, subst}
use Rattle.lin_engines.specs.Lanes.{IsStanding}
use Rattle.lin_engines.specs.lemmas.Beginnings.{longer}
use Rattle.lin_engines.proofs.Lanes.{ahead_or_there, still_standing}
use Rattle.lin_engines.proofs.lane.Lane.cut.Goals as goal

pub returns-then-stays-clause-right : goal.returns-then-stays-clause-right
returns-then-stays-clause-right g c = λ h edited lane same.
    let reach = g.E.Engine.reach in
    let kind = g.E.Engine.kind in
    let self = c.args.self.now in
    let ahead = c.stays-stays.ensures.0 c.if-stays.true in
    let least = c.min-self.ensures in
    let there = ahead_or_there (kind self.engine) self.budget h c.args.place (reach self.engine) self.mark self.said ahead lane.standing in
    let still : reach c.cut.new.self ≡ reach self.engine = (c.cut.ensures.place h lane.seen).still there in
    record {
      seen = c.cut.ensures.right h edited lane.seen same;
      within = longer h edited c.args.place c.min-self.result (omega (arith, least)) (let within = lane.within in omega (arith, least, within)) same;
      may = lane.may;
      standing = subst (λ k. IsStanding k self.budget edited (reach c.cut.new.self) c.min-self.result self.said) (sym c.cut.ensures.kind)
          (subst (λ r. IsStanding (kind self.engine) self.budget edited r c.min-self.result self.said) (sym still)
          (still_standing (kind self.engine) self.budget h edited c.args.place (reach self.engine) self.mark c.min-self.result self.said same ahead least lane.standing));
    }
