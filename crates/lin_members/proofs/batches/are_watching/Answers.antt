use Rattle.std.proofs.Common.{◌≡◌, ℕ, true, sym, ◌∙◌}
use Rattle.std.proofs.lemmas.List.Elements.{All-more}
use Rattle.lin_frontier.specs.lemmas.Each.{all_end}
use Rattle.lin_members.specs.Searching.{is_watching}
use Rattle.lin_members.proofs.batches.are_watching.Goals as goal

pub loop-process-preserved : goal.loop-process-preserved
loop-process-preserved g c =
    All-more (λ (x : ℕ). is_watching (g.O.SeqObject.observing c.args.object.now) c.args.pending.now x ≡ true) c.args.processes.now c.loop-process.process-index _ c.loop-process-test.true c.loop-process.invariant
    (sym c.is_watching.ensures ∙ c.if-not-is_watching.false)

pub returns : goal.returns
returns g c _ =
    all_end (λ (x : ℕ). is_watching (g.O.SeqObject.observing c.args.object.now) c.args.pending.now x ≡ true) c.args.processes.now c.loop-process.process-index c.loop-process-test.false c.loop-process.invariant
