use Rattle.std.proofs.Common.{◌≡◌, ◌+◌, ◌*◌, ap, sym, ◌∙◌, arith}
use Rattle.std.proofs.Math.Nat.{zero-mul}
use Rattle.lin_events.specs.declared.meter.Meter.{Meter}
use Rattle.lin_events.specs.Meters.{ticked}
use Rattle.lin_possibilities.specs.lemmas.Ticks.{ticked_on}
use Rattle.lin_explain.proofs.Passing.{next_pass}
use Rattle.lin_explain.proofs.passes.tick_passes.Goals as goal

pub loop-init : goal.loop-init
loop-init c =
    let before = c.args.meter.now in
    record {
      counted = ap (λ n. record before { steps = ticked before.steps n }) (sym (zero-mul c.args.count));
      least = omega arith;
      most = omega arith;
    }

pub loop-preserved : goal.loop-preserved
loop-preserved c =
    let before = c.args.meter.now in
    let at = c.loop.counter in
    let count = c.args.count in
    let was = c.loop.invariant in
    let next = next_pass at count in
    record {
      counted = c.tick_steps.ensures.counted ∙ ap (λ (m : Meter). record m { steps = ticked m.steps count }) was.counted
          ∙ ap (λ n. record before { steps = n }) (ticked_on before.steps (at * count) count ∙ ap (ticked before.steps) (sym next));
      least = omega (arith, was.least, c.tick_steps.ensures.least);
      most = omega (arith, was.most, c.tick_steps.ensures.most, next);
    }
