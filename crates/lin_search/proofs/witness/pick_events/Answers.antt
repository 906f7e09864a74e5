use Rattle.std.proofs.Common.{◌≡◌, ◌<◌, ◌+◌, ◌-◌, ◌^◌, ◌++◌, [], ◌∷◌, suc, get_or, length, ap, arith, sym, ◌∙◌}
use Rattle.std.specs.Prelude.{min}
use Rattle.lin_events.specs.declared.meter.Meter.{Meter}
use Rattle.lin_events.specs.Meters.{ticked}
use Rattle.lin_order.specs.Parts.{events_at}
use Rattle.lin_search.proofs.Witnesses.{one_more}
use Rattle.lin_search.proofs.witness.pick_events.Goals as goal

pub loop-pick-preserved : goal.loop-pick-preserved
loop-pick-preserved c =
    let h = c.args.events.now in
    let picks = c.args.picks.now in
    let before = c.args.meter.now in
    let at = c.loop-pick.pick-index in
    let within : at < length picks = omega (arith, c.loop-pick-test.true) in
    let next : suc at ≡ at + 1 = omega arith in
    record {
      own = c.in_ok-append_at.ensures ∙ ap (λ l. l ++ events_at h (get_or picks at 0 ∷ [])) c.loop-pick.invariant.own ∙ sym (one_more h picks at 0 within);
      counted = c.tick_step.ensures ∙ ap (λ (m : Meter). record m { steps = min (m.steps + 1) (2 ^ 64 - 1) }) c.loop-pick.invariant.counted ∙ ap (λ n. record before { steps = ticked before.steps n }) next;
      most = grind arith;
    }
