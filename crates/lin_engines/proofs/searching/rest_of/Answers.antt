use Rattle.std.proofs.Common.{◌≡◌, ◌+◌, ◌-◌, ◌^◌, suc, min, ◌∙◌, refl, sym, subst, ap, arith}
use Rattle.lin_events.specs.Meters.{ticked}
use Rattle.lin_events.specs.declared.meter.Meter.{Meter}
use Rattle.lin_engines.proofs.searching.rest_of.Goals as goal

pub loop-at-init : goal.loop-at-init
loop-at-init c =
    let steps = c.args.meter.now.steps in
    let none : c.args.of - c.args.of ≡ 0 = omega arith in
    record {
      behind = omega arith;
      counted = subst (λ k. steps ≡ ticked steps k) (sym none) refl;
      least = omega arith;
      most = omega arith;
      scans = refl;
    }

pub loop-at-preserved : goal.loop-at-preserved
loop-at-preserved c =
    let was = c.loop-at.invariant in
    let steps = c.args.meter.now.steps in
    let one = ap (λ (m : Meter). m.steps) c.tick.ensures.counted in
    let more : (c.loop-at.at + 1) - c.args.of ≡ suc (c.loop-at.at - c.args.of) = omega (arith, was.behind) in
    record {
      behind = omega (arith, was.behind);
      counted = subst (λ k. c.tick.new.meter.steps ≡ ticked steps k) (sym more) (one ∙ ap (λ n. min (n + 1) (2 ^ 64 - 1)) was.counted);
      least = omega (arith, was.least, c.tick.ensures.least);
      most = omega (arith, was.most, one);
      scans = ap (λ (m : Meter). m.scans) c.tick.ensures.counted ∙ was.scans;
    }
