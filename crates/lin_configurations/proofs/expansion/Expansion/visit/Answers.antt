use Rattle.lin_configurations.proofs.Expanding.{taken_in_not, taken_in}
use Rattle.lin_configurations.proofs.expansion.Expansion.visit.Goals as goal

pub returns-then-holds-clause-taken : goal.returns-then-holds-clause-taken
returns-then-holds-clause-taken g c =
    taken_in_not _ _ _ _ _ _ _ _ (c.holds.ensures.held c.if-holds.true (g.O.SeqObject.observing c.args.self.now.object.now))

pub returns-clause-taken : goal.returns-clause-taken
returns-clause-taken g c =
    taken_in _ _ _ _ _ _ _ _ _ c.in_ok-member.member (c.holds.ensures.new c.if-holds.false) c.in_ok-member.ensures.same c.in_ok-member.ensures.continued c.in_ok-push.ensures
