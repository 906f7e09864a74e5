use Rattle.std.proofs.Common.{◌+◌, length, refl, sym, ◌∙◌, arith}
use Rattle.std.proofs.lemmas.List.Elements.{Contains-get_or}
use Rattle.lin_frontier.proofs.TriedOnce.{one_step, counted_step, tried_end}
use Rattle.lin_frontier.specs.lemmas.Trying.{trying_start, trying_step}
use Rattle.lin_frontier.proofs.placing.place.Goals as goal

pub loop-state-init : goal.loop-state-init
loop-state-init g c =
    let sound = rw c.state.ensures at c.in_ok-outcomes.ensures.sound in
    let complete = rw c.state.ensures at c.in_ok-outcomes.ensures.complete in
    record {
      trying = trying_start _ _ c.args.out.now.items c.outcomes.new.out.items (λ k d l. sound _ _ (Contains-get_or c.outcomes.new.out.items k d l)) (λ a p. complete a.0 a.1 p);
      counted = refl;
    }

pub loop-state-preserved : goal.loop-state-preserved
loop-state-preserved g c =
    let pushed = c.in_ok-put_step.ensures in
    record {
      trying = trying_step _ _ c.args.out.now.items c.loop-state.steps.items c.pop.new.self.items c.loop-state.out.items _ (c.in-Some.state, c.in-Some.reply) c.in-Some.ensures.items pushed c.loop-state.invariant.trying;
      counted = counted_step c.loop-state.steps.items c.pop.new.self.items _ c.loop-state.out.items _ _ (length c.args.out.now.items + length c.outcomes.new.out.items) c.in-Some.ensures.items pushed c.loop-state.invariant.counted;
    }

pub returns-clause-placed : goal.returns-clause-placed
returns-clause-placed g c =
    let none = sym c.loop-state.steps.ok.0 ∙ c.in_default.ensures.cases.0 in
    tried_end _ c.args.operation.now c.args.config.now c.args.out.now.items c.loop-state.steps.items c.loop-state.out.items c.requires none c.loop-state.invariant.trying

pub returns-clause-few : goal.returns-clause-few
returns-clause-few g c overwriting update =
    let one = one_step _ _ _ c.args.operation.now.call c.outcomes.new.out.items (g.O.SeqObject.overwritten c.args.object.now overwriting) update c.in_ok-outcomes.ensures.sound c.in_ok-outcomes.ensures.once in
    omega (arith, c.loop-state.invariant.counted, one)
