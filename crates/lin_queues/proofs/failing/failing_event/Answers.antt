use Rattle.std.proofs.Common.{◌≡◌, ◌<◌, ◌+◌, ◌-◌, ◌^◌, ℕ, suc, take, length, sym, ap, ◌∙◌, subst, arith, Ok}
use Rattle.std.specs.Prelude.{min}
use Rattle.lin_events.specs.declared.meter.Meter.{Meter}
use Rattle.lin_events.specs.Meters.{ticked}
use Rattle.lin_events.specs.WellFormed.{IsWellFormed}
use Rattle.lin_objects.specs.declared.kinds.Kind.TheVariants.{Fifo}
use Rattle.lin_order.specs.Linearizable.{IsLinearizableAs}
use Rattle.lin_order.specs.lemmas.Lists.{take_more}
use Rattle.std.proofs.lemmas.List.{take_all}
use Rattle.lin_queues.specs.Engines.{AreDebtsOf}
use Rattle.lin_queues.specs.declared.failing.QueueFinding.TheVariants.{Fails}
use Rattle.lin_queues.proofs.Lists.{ok_is}
use Rattle.std.proofs.lemmas.List.{length-take-le}
use Rattle.lin_queues.specs.Reaching.{AreTooMany}
use Rattle.lin_queues.proofs.failing.failing_event.Goals as goal

fails_at : {a b : ℕ} → Fails a ≡ Fails b → a ≡ b
fails_at e = cc

pub returns-in-Fails-clause-inside : goal.returns-in-Fails-clause-inside
returns-in-Fails-clause-inside c = λ at is. subst (λ n. n < length c.args.events.now) (fails_at (ok_is is)) c.loop-at-test.true

pub returns-in-Fails-clause-failing : goal.returns-in-Fails-clause-failing
returns-in-Fails-clause-failing c = λ at is functions formed order.
    let events = c.args.events.now in
    let here = c.loop-at.at in
    let same = fails_at (ok_is is) in
    let more = take_more events here c.index-events-at.result c.loop-at-test.true c.index-events-at.is in
    let first = subst (IsWellFormed functions) more (c.beginnings_are_well_formed.ensures functions events (here + 1) formed) in
    c.in_ok-take_in.ensures.fails (ap Ok c.in-Fails.is) functions (take here events) first (c.loop-at.invariant.debts functions formed)
    (subst (IsLinearizableAs Fifo) (ap (λ n. take (n + 1) events) (sym same) ∙ more) order)

pub loop-at-preserved : goal.loop-at-preserved
loop-at-preserved c =
    let events = c.args.events.now in
    let here = c.loop-at.at in
    let more = take_more events here c.index-events-at.result c.loop-at-test.true c.index-events-at.is in
    let before = c.args.meter.now in
    let next : suc here ≡ here + 1 = omega arith in
    record {
      debts = λ functions formed.
          let first = subst (IsWellFormed functions) more (c.beginnings_are_well_formed.ensures functions events (here + 1) formed) in
          subst (AreDebtsOf c.take_in.new.self) (sym more) (c.in_ok-take_in.ensures.next (ap Ok c.in-Next.is) functions (take here events) first (c.loop-at.invariant.debts functions formed));
      counted = c.count.ensures.counted ∙ ap (λ (m : Meter). record m { steps = min (m.steps + 1) (2 ^ 64 - 1) }) c.loop-at.invariant.counted ∙ ap (λ n. record before { steps = ticked before.steps n }) next;
      least = (let a = c.loop-at.invariant.least in let b = c.count.ensures.least in omega arith);
      most = (let a = c.loop-at.invariant.most in let b = c.count.ensures.most in omega arith);
    }

pub returns-clause-stands : goal.returns-clause-stands
returns-clause-stands c = λ is functions formed. (c.loop-at.debts, subst (AreDebtsOf c.loop-at.debts) (take_all c.loop-at.at c.args.events.now c.loop-at-test.false) (c.loop-at.invariant.debts functions formed))

pub returns-in-GivesUp-clause-gave_up : goal.returns-in-GivesUp-clause-gave_up
returns-in-GivesUp-clause-gave_up c = λ is functions formed.
    let events = c.args.events.now in
    let here = c.loop-at.at in
    let more = take_more events here c.index-events-at.result c.loop-at-test.true c.index-events-at.is in
    let first = subst (IsWellFormed functions) more (c.beginnings_are_well_formed.ensures functions events (here + 1) formed) in
    let len = length-take-le here events (let l = c.loop-at-test.true in omega arith) in (
      here,
      c.loop-at-test.true,
      subst AreTooMany (sym more)
          (c.in_ok-take_in.ensures.gives_up (ap Ok c.in-GivesUp.is) functions (take here events) first (c.loop-at.invariant.debts functions formed) (let l = c.if-prove.false in omega arith)),
    )
