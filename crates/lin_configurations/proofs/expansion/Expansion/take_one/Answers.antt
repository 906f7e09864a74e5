use Rattle.std.proofs.Common.{◌≡◌, subst, ◌∙◌, arith}
use Rattle.std.proofs.lemmas.Grind.{common_steps}
use Rattle.lin_members.specs.Listed.{IsHeld}
use Rattle.lin_frontier.specs.Placing.{insert_pair}
use Rattle.lin_configurations.proofs.Expanding.{extended_not, taken_extends}
use Rattle.lin_configurations.proofs.expansion.Expansion.take_one.Goals as goal
use Rattle.lin_configurations.proofs.expansion.Expansion.take_one.Goals.{In_ok-visit}

pub returns-then-not-is_absent-clause-extended : goal.returns-then-not-is_absent-clause-extended
returns-then-not-is_absent-clause-extended g c = extended_not _ _ _ _ _ _ _

pub returns-in_default-clause-extended : goal.returns-in_default-clause-extended
returns-in_default-clause-extended g c = extended_not _ _ _ _ _ _ _

-- the configuration with the offer taken
with_it : (g : _) (c : In_ok-visit g) → c.in_ok-next.next ≡ (c.args.config.now.0, insert_pair c.args.offer.now.1.0 c.args.offer.now.1.1 c.args.config.now.1)
with_it g c =
    let state = c.in_ok-state.ensures ∙ c.state.ensures in
    let reply = c.in_ok-reply.ensures in
    c.in_ok-next.ensures ∙ (λ i. (state i, insert_pair c.args.offer.now.1.0 (reply i) c.args.config.now.1))

pub returns-clause-extended : goal.returns-clause-extended
returns-clause-extended g c =
    taken_extends (g.O.SeqObject.starts c.args.self.now.object.now) (g.O.SeqObject.step c.args.self.now.object.now) (g.O.SeqObject.observing c.args.self.now.object.now) c.args.self.now.pending.now c.args.self.now.offers.now
    c.args.config.now c.in_ok-next.next c.in_ok-placed.placed c.args.path c.args.nodes.now c.visit.new.nodes c.args.found.now c.visit.new.found c.requires.there
    c.well_formed_is_alternating.ensures c.rounds_take_operations.ensures.takes (g.O.SeqObject.unchanged c.args.self.now.object.now) c.in-Some.operation.now (rw c.as_slice.ensures at c.in-Some.ensures.some).0 c.args.offer.now c.requires.offered
    (rw c.as_slice.ensures at c.in-Some.ensures.some).1 (rw c.placed.ensures at (c.is_absent.ensures.0 c.if-not-is_absent.false)) c.in_ok-placed.ensures (with_it g c) c.visit.ensures.grown c.in_ok-visit.ensures.taken

pub returns-clause-taken : goal.returns-clause-taken
returns-clause-taken g c o there same absent =
    subst (IsHeld (g.O.SeqObject.observing c.args.self.now.object.now) c.args.self.now.pending.now c.visit.new.found) (with_it g c) c.in_ok-visit.ensures.taken.held

pub returns-clause-grown : goal.returns-clause-grown
returns-clause-grown g c = grind (arith, common_steps)

pub returns-in_default-clause-grown : goal.returns-in_default-clause-grown
returns-in_default-clause-grown g c = grind (arith, common_steps)

pub returns-in_default-clause-taken : goal.returns-in_default-clause-taken
returns-in_default-clause-taken g c = grind (arith, common_steps)

pub returns-in_err-next-clause-extended : goal.returns-in_err-next-clause-extended
returns-in_err-next-clause-extended g c = grind (arith, common_steps)

pub returns-in_err-next-clause-grown : goal.returns-in_err-next-clause-grown
returns-in_err-next-clause-grown g c = grind (arith, common_steps)

pub returns-in_err-next-clause-taken : goal.returns-in_err-next-clause-taken
returns-in_err-next-clause-taken g c = grind (arith, common_steps)

pub returns-in_err-placed-clause-extended : goal.returns-in_err-placed-clause-extended
returns-in_err-placed-clause-extended g c = grind (arith, common_steps)

pub returns-in_err-placed-clause-grown : goal.returns-in_err-placed-clause-grown
returns-in_err-placed-clause-grown g c = grind (arith, common_steps)

pub returns-in_err-placed-clause-taken : goal.returns-in_err-placed-clause-taken
returns-in_err-placed-clause-taken g c = grind (arith, common_steps)

pub returns-in_err-reply-clause-extended : goal.returns-in_err-reply-clause-extended
returns-in_err-reply-clause-extended g c = grind (arith, common_steps)

pub returns-in_err-reply-clause-grown : goal.returns-in_err-reply-clause-grown
returns-in_err-reply-clause-grown g c = grind (arith, common_steps)

pub returns-in_err-reply-clause-taken : goal.returns-in_err-reply-clause-taken
returns-in_err-reply-clause-taken g c = grind (arith, common_steps)

pub returns-in_err-state-clause-extended : goal.returns-in_err-state-clause-extended
returns-in_err-state-clause-extended g c = grind (arith, common_steps)

pub returns-in_err-state-clause-grown : goal.returns-in_err-state-clause-grown
returns-in_err-state-clause-grown g c = grind (arith, common_steps)

pub returns-in_err-state-clause-taken : goal.returns-in_err-state-clause-taken
returns-in_err-state-clause-taken g c = grind (arith, common_steps)

pub returns-in_err-visit-clause-extended : goal.returns-in_err-visit-clause-extended
returns-in_err-visit-clause-extended g c = grind (arith, common_steps)

pub returns-in_err-visit-clause-grown : goal.returns-in_err-visit-clause-grown
returns-in_err-visit-clause-grown g c = grind (arith, common_steps)

pub returns-in_err-visit-clause-taken : goal.returns-in_err-visit-clause-taken
returns-in_err-visit-clause-taken g c = grind (arith, common_steps)

pub returns-then-not-is_absent-clause-grown : goal.returns-then-not-is_absent-clause-grown
returns-then-not-is_absent-clause-grown g c = grind (arith, common_steps)

pub returns-then-not-is_absent-clause-taken : goal.returns-then-not-is_absent-clause-taken
returns-then-not-is_absent-clause-taken g c = grind (arith, common_steps)
