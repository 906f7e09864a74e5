use Rattle.std.proofs.Common.{◌≤◌, ◌+◌, ◌*◌, length, subst, sym, arith}
use Rattle.lin_engines.specs.Witnesses.{quarters}
use Rattle.lin_engines.specs.lemmas.Picks.{length-events_at}
use Rattle.lin_engines.proofs.witness.Witness.mend.Goals as goal

pub returns-in-Near-clause-steps : goal.returns-in-Near-clause-steps
returns-in-Near-clause-steps c =
    let len = length-events_at c.args.events.now c.args.picks.now c.requires.inside in
    subst (λ back. 4 * c.retry.new.meter.steps ≤ 4 * c.args.meter.now.steps + quarters back * length c.args.picks.now) (sym c.in-Near.is)
    (omega (arith, c.requires.right.reached.within, len, c.retry.ensures.steps))

pub returns-in_err-retry-in-Far-clause-steps : goal.returns-in_err-retry-in-Far-clause-steps
returns-in_err-retry-in-Far-clause-steps c =
    let len = length-events_at c.args.events.now c.args.picks.now c.requires.inside in
    subst (λ back. 4 * c.retry-in-Far.new.meter.steps ≤ 4 * c.args.meter.now.steps + quarters back * length c.args.picks.now) (sym c.in-Far.is)
    (omega (arith, c.requires.right.reached.within, len, c.retry-in-Far.ensures.steps))

pub returns-in_err-retry-in-Far-2-clause-steps : goal.returns-in_err-retry-in-Far-2-clause-steps
returns-in_err-retry-in-Far-2-clause-steps c =
    let len = length-events_at c.args.events.now c.args.picks.now c.requires.inside in
    subst (λ back. 4 * c.retry-in-Far-2.new.meter.steps ≤ 4 * c.args.meter.now.steps + quarters back * length c.args.picks.now) (sym c.in-Far.is)
    (omega (arith, c.requires.right.reached.within, len, c.retry-in-Far.ensures.steps, c.retry-in-Far-2.ensures.steps))

pub returns-in_ok-retry-in-Far-2-clause-steps : goal.returns-in_ok-retry-in-Far-2-clause-steps
returns-in_ok-retry-in-Far-2-clause-steps c =
    let len = length-events_at c.args.events.now c.args.picks.now c.requires.inside in
    subst (λ back. 4 * c.retry-in-Far-3.new.meter.steps ≤ 4 * c.args.meter.now.steps + quarters back * length c.args.picks.now) (sym c.in-Far.is)
    (omega (arith, c.requires.right.reached.within, len, c.retry-in-Far.ensures.steps, c.retry-in-Far-2.ensures.steps, c.retry-in-Far-3.ensures.steps))
