use Rattle.std.proofs.Common.{◌≡◌, ◌≤◌, ◌+◌, ◌-◌, ◌^◌, suc, min, ◌∙◌, refl, sym, subst, arith}
use Rattle.lin_events.specs.Meters.{ticked}
use Rattle.lin_order.specs.Parts.{events_at}
use Rattle.lin_engines.specs.Witnesses.{IsWitness}
use Rattle.lin_engines.specs.lemmas.Picks.{event_there, length-events_at}
use Rattle.lin_engines.proofs.Growing.{ok_false, ok_true}
use Rattle.lin_engines.proofs.witness.Witness.go_through.Goals as goal
use Rattle.lin_engines.proofs.witness.Witness.go_through.Goals.{After-take_in}

taken : (c : After-take_in) → IsWitness c.take_in.new.self (events_at c.args.events.now c.args.picks.now)
taken c =
    let events = c.args.events.now in
    let picks = c.args.picks.now in
    c.take_in.ensures.right c.requires.well_formed.0 (events_at events picks) c.requires.well_formed.1
    (event_there events picks c.loop-self.self.of c.index-events-picks.result c.requires.inside c.loop-self-test.true c.index-events-picks.is) c.loop-self.invariant.right

pub returns-in_err-take_in-clause-right : goal.returns-in_err-take_in-clause-right
returns-in_err-take_in-clause-right c = taken (goal.at.returns-in_err-take_in-clause-right c).After-take_in

pub returns-then-not-branch-clause-right : goal.returns-then-not-branch-clause-right
returns-then-not-branch-clause-right c = taken (goal.at.returns-then-not-branch-clause-right c).After-take_in

pub loop-self-preserved : goal.loop-self-preserved
loop-self-preserved c =
    let was = c.loop-self.invariant in
    let next = c.in_ok-take_in.ensures.next (ok_true c.in_ok-take_in.field-0 c.if-not-branch.false) in
    record {
      object = c.take_in.ensures.object ∙ was.object;
      right = taken (goal.at.loop-self-preserved c).After-take_in;
      more = omega (arith, was.more, next);
      counted =
          let more : c.take_in.new.self.of - c.args.self.now.of ≡ suc (c.loop-self.self.of - c.args.self.now.of) = omega (arith, was.more, next) in
          let most : min (ticked c.args.meter.now.steps (c.loop-self.self.of - c.args.self.now.of) + 1) (2 ^ 64 - 1) ≤ c.take_in.new.meter.steps = omega (arith, was.counted, c.take_in.ensures.counted) in
          subst (λ k. ticked c.args.meter.now.steps k ≤ c.take_in.new.meter.steps) (sym more) most;
      least = omega (arith, was.least, c.take_in.ensures.least);
      steps = omega (arith, was.steps, next, c.take_in.ensures.counted);
      scans = c.take_in.ensures.scans ∙ was.scans;
    }

pub returns-clause-steps : goal.returns-clause-steps
returns-clause-steps c =
    let was = c.loop-self.invariant in
    let within = was.right.reached.within in
    let len = length-events_at c.args.events.now c.args.picks.now c.requires.inside in
    omega (arith, was.steps, within, len)

pub loop-self-init : goal.loop-self-init
loop-self-init c =
    let none : c.args.self.now.of - c.args.self.now.of ≡ 0 = omega arith in
    record {
      object = refl;
      right = c.requires.right;
      more = omega arith;
      counted = subst (λ k. ticked c.args.meter.now.steps k ≤ c.args.meter.now.steps) (sym none) (omega arith);
      least = omega arith;
      steps = omega arith;
      scans = refl;
    }

-- where it ends, no more is counted for
ended : (c : After-take_in) → c.take_in.new.self.of ≡ c.loop-self.self.of → ticked c.args.meter.now.steps (c.take_in.new.self.of - c.args.self.now.of) ≤ c.take_in.new.meter.steps
ended c stays =
    let was = c.loop-self.invariant in
    let most : ticked c.args.meter.now.steps (c.loop-self.self.of - c.args.self.now.of) ≤ c.take_in.new.meter.steps = omega (arith, was.counted, c.take_in.ensures.least) in
    subst (λ n. ticked c.args.meter.now.steps (n - c.args.self.now.of) ≤ c.take_in.new.meter.steps) (sym stays) most

pub returns-in_err-take_in-clause-counted : goal.returns-in_err-take_in-clause-counted
returns-in_err-take_in-clause-counted c = ended (goal.at.returns-in_err-take_in-clause-counted c).After-take_in (c.in_err-take_in.ensures.stays (λ e. cc e))

pub returns-then-not-branch-clause-counted : goal.returns-then-not-branch-clause-counted
returns-then-not-branch-clause-counted c = ended (goal.at.returns-then-not-branch-clause-counted c).After-take_in (c.in_ok-take_in.ensures.stays (ok_false c.in_ok-take_in.field-0 c.if-not-branch.true))
