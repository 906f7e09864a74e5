use Rattle.std.proofs.Common.{◌≡◌, ◌≤◌, ◌<◌, ◌∙◌, Ok, ℕ, length, ap, sym, subst, take, arith}
use Rattle.lin_objects.specs.Steps.{Step, start}
use Rattle.lin_order.specs.Parts.{events_at}
use Rattle.lin_order.specs.Configurations.{IsOver}
use Rattle.lin_order.specs.Linearizable.{IsDeadAt}
use Rattle.lin_engines.specs.Ends.{IsEndOf}
use Rattle.lin_engines.specs.lemmas.Picks.{length-events_at}
use Rattle.lin_chain.specs.Chains.{kind_in}
use Rattle.lin_chain.proofs.Chaining.{dead_within}
use Rattle.lin_chain.proofs.chain.Chain.refute.Goals as goal
use Rattle.lin_chain.proofs.chain.Chain.refute.Goals.{After-kind}

dead : (c : After-kind) → IsDeadAt (kind_in c.args.self.now) (events_at c.args.events.now c.args.picks.now) c.in-Some-Dead.at
dead c =
    let h = events_at c.args.events.now c.args.picks.now in
    let long = length-events_at c.args.events.now c.args.picks.now c.requires.inside in
    subst (IsEndOf (kind_in c.args.self.now) 0 h) c.in-Some-Dead.field-0-is (c.in-Some-Dead.ensures.right h 0 (sym long) c.requires.right (λ at over. omega arith))

pub refutation_of-requires-clause-place : goal.refutation_of-requires-clause-place
refutation_of-requires-clause-place c =
    let h = events_at c.args.events.now c.args.picks.now in
    let long = length-events_at c.args.events.now c.args.picks.now c.requires.inside in
    let within = dead_within (kind_in c.args.self.now) h c.in-Some-Dead.at (dead (goal.at.refutation_of-requires-clause-place c).After-kind) in
    omega (arith, within, long)

pub refutation_of-requires-clause-dead : goal.refutation_of-requires-clause-dead
refutation_of-requires-clause-dead c = subst (λ k. IsDeadAt k (events_at c.args.events.now c.args.picks.now) c.in-Some-Dead.at) (sym c.kind.ensures) (dead (goal.at.refutation_of-requires-clause-dead c).After-kind)

pub returns-in-Ok-None-clause-too_large : goal.returns-in-Ok-None-clause-too_large
returns-in-Ok-None-clause-too_large c = λ _.
    subst (λ kind. (n : ℕ) × IsOver (start kind) (Step kind) (take n (events_at c.args.events.now c.args.picks.now)) c.args.budget) c.kind.ensures
    (c.refutation_of.ensures.over (c.in-Ok-None.is ∙ ap Ok c.in-Ok-None.field-0-is))
