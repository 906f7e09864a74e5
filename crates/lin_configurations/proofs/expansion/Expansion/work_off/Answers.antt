use Rattle.std.proofs.Common.{get_or, arith}
use Rattle.std.proofs.lemmas.Grind.{common_steps}
use Rattle.lin_configurations.proofs.Expanding.{extended_both, taken_still, tried_where}
use Rattle.lin_configurations.proofs.expansion.Expansion.work_off.Goals as goal

pub returns-in_ok-place_all-clause-extended : goal.returns-in_ok-place_all-clause-extended
returns-in_ok-place_all-clause-extended g c = extended_both _ _ _ _ _ _ _ _ _ _ _ c.in_ok-take_all.ensures.extended c.in_ok-place_all.ensures.extended

pub returns-in_ok-place_all-clause-taken : goal.returns-in_ok-place_all-clause-taken
returns-in_ok-place_all-clause-taken g c k d inside =
    taken_still _ _ _ _ _ _ _ _ _ c.in_ok-place_all.ensures.extended c.args.config.now (get_or c.args.self.now.offers.now k d) (c.in_ok-take_all.ensures.taken k d inside)

pub returns-in_ok-place_all-clause-tried : goal.returns-in_ok-place_all-clause-tried
returns-in_ok-place_all-clause-tried g c = tried_where c.args.self.now.places c.args.self.now.pending.now _ _ c.if-self.true c.place_all.ensures.tried

pub returns-in_err-place_all-clause-grown : goal.returns-in_err-place_all-clause-grown
returns-in_err-place_all-clause-grown g c = grind (arith, common_steps)

pub returns-in_ok-place_all-clause-grown : goal.returns-in_ok-place_all-clause-grown
returns-in_ok-place_all-clause-grown g c = grind (arith, common_steps)
