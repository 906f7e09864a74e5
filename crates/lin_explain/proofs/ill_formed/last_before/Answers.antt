use Rattle.std.proofs.Common.{◌≡◌, ◌+◌, subst, sym, arith}
use Rattle.lin_explain.specs.IllFormed.{IsLastPlace}
use Rattle.lin_explain.proofs.Before.{as_before, at_last}
use Rattle.lin_explain.proofs.ill_formed.last_before.Goals as goal
use Rattle.lin_explain.proofs.ill_formed.last_before.Goals.{then-event-process, else-event-process}

pub loop-earlier-preserved : goal.loop-earlier-preserved
loop-earlier-preserved c =
    let h = c.args.present.now.history in
    let k = c.loop-earlier.earlier in
    elim c.if-event-process.branch [
      | then-event-process w ↦ subst (IsLastPlace h c.args.process (k + 1)) (sym w.found-is) (at_last h c.args.process k c.in-Some.event.now c.in-Some.ensures.found w.if-event-process.true)
      | else-event-process w ↦ subst (IsLastPlace h c.args.process (k + 1)) (sym w.found-is)
          (as_before h c.args.process k c.in-Some.event.now c.in-Some.ensures.found c.loop-earlier.found w.if-event-process.false c.loop-earlier.invariant)
    ]

pub returns : goal.returns
returns c =
    let same : c.loop-earlier.earlier ≡ c.args.at = omega (arith, c.loop-earlier-test.false, c.loop-earlier.auto.earlier-end) in
    subst (λ n. IsLastPlace c.args.present.now.history c.args.process n c.loop-earlier.found) same c.loop-earlier.invariant
