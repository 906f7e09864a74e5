use Rattle.std.proofs.Common.{length, false, List, get_or, set, ap, ◌∙◌, arith, map}
use Rattle.lin_events.specs.declared.calls.Call.TheVariants.{Read}
use Rattle.lin_frontier.specs.declared.pending.Open.{Open}
use Rattle.lin_frontier.specs.Placing.{marked}
use Rattle.lin_frontier.proofs.Marking.{partly_get, partly_set, partly_all, written_back}
use Rattle.lin_frontier.proofs.pending.mark_crashed.Goals as goal

pub loop-open-preserved : goal.loop-open-preserved
loop-open-preserved c =
    let none : Open = record { process = 0; at = 0; call = Read; crashed = false } in
    let i = c.loop-open.open-index in
    ap (λ (xs : List Open). set xs i (marked c.args.process (get_or xs i (record { process = 0; at = 0; call = Read; crashed = false })))) c.loop-open.invariant
    ∙ partly_set (marked c.args.process) i c.deref_mut-open-items.result.now none _ c.loop-open-test.true (ap (marked c.args.process) (partly_get (marked c.args.process) i c.deref_mut-open-items.result.now none))

pub returns : goal.returns
returns c =
    let all = c.loop-open.invariant ∙ partly_all (marked c.args.process) c.loop-open.open-index c.deref_mut-open-items.result.now c.loop-open-test.false in
    written_back _ c.loop-open.open-items c.args.pending.now.items (c.loop-open.auto.open-items ∙ ap length c.deref_mut-open-items.ensures.value) (omega (arith, c.args.pending.now.ok.0))
    ∙ all ∙ ap (map (marked c.args.process)) c.deref_mut-open-items.ensures.value
