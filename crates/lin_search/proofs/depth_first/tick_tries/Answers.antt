use Rattle.std.proofs.Common.{◌≡◌, ◌+◌, ◌-◌, ◌^◌, suc, ap, ◌∙◌, arith}
use Rattle.std.specs.Prelude.{min}
use Rattle.lin_events.specs.declared.meter.Meter.{Meter}
use Rattle.lin_events.specs.Meters.{ticked}
use Rattle.lin_search.proofs.depth_first.tick_tries.Goals as goal

pub loop-preserved : goal.loop-preserved
loop-preserved c = record {
  counted =
      let before = c.args.meter.now in
      let at = c.loop.counter in
      let next : suc at ≡ at + 1 = omega arith in
      c.tick_try.ensures ∙ ap (λ (m : Meter). record m { tries = min (m.tries + 1) (2 ^ 64 - 1) }) c.loop.invariant.counted ∙ ap (λ n. record before { tries = ticked before.tries n }) next;
  risen = grind arith;
  most = grind arith;
}
