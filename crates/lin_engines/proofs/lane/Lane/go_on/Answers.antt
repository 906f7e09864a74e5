use Rattle.std.proofs.Common.{◌≡◌, ◌<◌, ◌≤◌, ◌∙◌, length, arith}
use Rattle.lin_order.specs.Parts.{events_at}
use Rattle.lin_engines.specs.lemmas.Picks.{length-events_at}
use Rattle.lin_engines.proofs.lane.Lane.go_on.Goals as goal

pub loop-self-preserved : goal.loop-self-preserved
loop-self-preserved g c =
    let was = c.loop-self.invariant in
    let further = c.in_ok-next.ensures.further in
    let spent = c.in_ok-next.ensures.spent in
    record {
      kind = c.next.ensures.kind ∙ was.kind;
      right = c.next.ensures.right;
      retried = λ enough. c.next.ensures.retried (was.retried enough);
      under = λ most less under. c.next.ensures.under most less (was.under most less under);
      no_less = omega (arith, was.no_less, further);
      spent = omega (arith, was.spent, spent);
      scans = c.next.ensures.scans ∙ was.scans;
    }

pub returns-in_err-next-clause-under : goal.returns-in_err-next-clause-under
returns-in_err-next-clause-under g c = λ most less under. c.next.ensures.under most less (c.loop-self.invariant.under most less under)

pub returns-clause-all : goal.returns-clause-all
returns-clause-all g c =
    let long = length-events_at c.args.events.now c.args.picks.now c.requires.inside in
    let within = c.loop-self.invariant.right.within in
    let done = c.loop-self-test.false in
    omega (arith, long, within)
