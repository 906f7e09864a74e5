use Rattle.std.proofs.Common.{inl, sym, ◌∙◌}
use Rattle.lin_objects.specs.Steps.{Step}
use Rattle.lin_order.specs.inner.Checking.{HoldsWith}
use Rattle.lin_order.specs.lemmas.Lists.{yes_since, no_since}
use Rattle.lin_order.proofs.Carrying.{taken_fewer, taken_not, taken_all}
use Rattle.lin_order.proofs.Sets.{empty_if}
use Rattle.lin_order.proofs.refutations.holds_steps.Goals as goal

pub returns-then-not-is_absent : goal.returns-then-not-is_absent
returns-then-not-is_absent c = yes_since (λ next reply steps more added. let yes' = c.is_absent.ensures.1 added.absent in let no' = c.if-not-is_absent.true in absurd cc)

pub loop-outcome-init : goal.loop-outcome-init
loop-outcome-init c = record {
  sound = λ next reply there. c.in_ok-outcomes.ensures.sound next reply there;
  complete = λ next reply steps. inl (c.in_ok-outcomes.ensures.complete next reply steps);
}

pub returns-then-not-held : goal.returns-then-not-held
returns-then-not-held c =
    no_since (taken_not (Step c.args.kind c.args.state.now c.args.call.now) (HoldsWith c.args.members.now.keys c.args.placed.now c.args.process) c.loop-outcome.outcomes.items c.pop.new.self.items c.in-Some.outcome
    c.in-Some.ensures.items c.loop-outcome.invariant (λ good. let yes' = c.in_ok-held.ensures.1 good in let no' = c.if-not-held.true in cc))

pub loop-outcome-preserved : goal.loop-outcome-preserved
loop-outcome-preserved c =
    taken_fewer (Step c.args.kind c.args.state.now c.args.call.now) (HoldsWith c.args.members.now.keys c.args.placed.now c.args.process) c.loop-outcome.outcomes.items c.pop.new.self.items c.in-Some.outcome
    c.in-Some.ensures.items c.loop-outcome.invariant (c.in_ok-held.ensures.0 c.if-not-held.false)

pub returns : goal.returns
returns c = yes_since (taken_all (Step c.args.kind c.args.state.now c.args.call.now) (HoldsWith c.args.members.now.keys c.args.placed.now c.args.process) c.loop-outcome.outcomes.items (empty_if c.loop-outcome.outcomes.items (sym c.loop-outcome.outcomes.ok.0 ∙ c.in_default.ensures.cases.0)) c.loop-outcome.invariant)

pub holds_with-requires-clause-absent : goal.holds_with-requires-clause-absent
holds_with-requires-clause-absent c = c.is_absent.ensures.0 c.if-not-is_absent.false
