use Rattle.std.proofs.Common.{◌≡◌, ◌+◌, Option, Result, Ok, Some, arith, refl, sym, subst, take, ap, ◌∙◌}
use Rattle.lin_events.specs.declared.lists.OutOfMemory.{OutOfMemory}
use Rattle.lin_events.specs.Operations.{IsEvent}
use Rattle.lin_objects.specs.Steps.{Step, start}
use Rattle.lin_order.specs.Parts.{events_at}
use Rattle.lin_order.specs.Refutations.{IsRefutation, sets_of}
use Rattle.lin_order.specs.declared.refutations.Refutation.{Refutation}
use Rattle.lin_order.specs.Configurations.{IsOver}
use Rattle.lin_order.specs.Linearizable.{IsLinearizableAs}
use Rattle.lin_engines.specs.lemmas.Picks.{event_there, length-events_at}
use Rattle.lin_chain.proofs.ExactSets.{AreAll, sets_refute, take_within}
use Rattle.lin_chain.proofs.refuting.refutation_of.Goals as goal
use Rattle.lin_chain.proofs.refuting.refutation_of.Goals.{In_ok-take_in}

pub loop-at-init : goal.loop-at-init
loop-at-init c = (c.in_ok-builder.ensures.kind, c.in_ok-builder.ensures.built _, omega arith, refl)

there : (c : In_ok-take_in) → IsEvent (events_at c.args.events.now c.args.picks.now) c.loop-at.at c.index-events-picks.result
there c = event_there c.args.events.now c.args.picks.now c.loop-at.at c.index-events-picks.result c.requires.inside (let below = c.loop-at-test.true in let place = c.requires.place in omega arith) c.index-events-picks.is

pub returns-in-Over-clause-over : goal.returns-in-Over-clause-over
returns-in-Over-clause-over c = λ _.
    let h = events_at c.args.events.now c.args.picks.now in (
      c.loop-at.at + 1,
      subst (λ kind. IsOver (start kind) (Step kind) (take (c.loop-at.at + 1) h) c.args.budget) c.loop-at.invariant.0
          (c.in_ok-take_in.ensures.over (ap Ok c.in-Over.is) c.requires.well_formed.0 h c.requires.well_formed.1 (there (goal.at.returns-in-Over-clause-over c).In_ok-take_in) c.loop-at.invariant.1),
    )

pub unreachable-requires : goal.unreachable-requires
unreachable-requires c =
    let h = events_at c.args.events.now c.args.picks.now in
    let begun = c.prefixes_are_linearizable_by.ensures (take c.args.dead h) (c.loop-at.at + 1) c.requires.dead.before in
    let below = c.loop-at-test.true in
    c.in_ok-take_in.ensures.empty (ap Ok c.in-Empty.is) c.requires.well_formed.0 h c.requires.well_formed.1 (there (goal.at.unreachable-requires c).In_ok-take_in) c.loop-at.invariant.1
    (subst (λ kind. IsLinearizableAs kind (take (c.loop-at.at + 1) h)) (sym c.loop-at.invariant.0)
    (subst (IsLinearizableAs c.args.kind) (take_within (c.loop-at.at + 1) c.args.dead h (omega arith)) begun))

pub loop-at-preserved : goal.loop-at-preserved
loop-at-preserved c =
    let h = events_at c.args.events.now c.args.picks.now in (
      c.take_in.ensures.kind ∙ c.loop-at.invariant.0,
      c.in_ok-take_in.ensures.next (ap Ok c.in-Next.is) c.requires.well_formed.0 h c.requires.well_formed.1 (there (goal.at.loop-at-preserved c).In_ok-take_in) c.loop-at.invariant.1,
      omega (arith, c.loop-at.invariant.2, c.take_in.ensures.steps),
      c.take_in.ensures.scans ∙ c.loop-at.invariant.3,
    )

pub returns-clause-refuted : goal.returns-clause-refuted
returns-clause-refuted c = λ refutation is.
    let h = events_at c.args.events.now c.args.picks.now in
    let built = c.loop-at.invariant.1 in
    let all_taken : c.loop-at.at ≡ c.args.dead = (let done = c.loop-at-test.false in let end = c.loop-at.auto.at-end in omega arith) in
    let inside = length-events_at c.args.events.now c.args.picks.now c.requires.inside in
    let sets : AreAll c.args.kind h c.loop-at.builder.sets.items = subst (λ kind. AreAll kind h c.loop-at.builder.sets.items) c.loop-at.invariant.0 built.sets in
    subst (λ r. IsRefutation (take (c.args.dead + 1) h) c.args.kind (sets_of r)) (same _ _ refl refl is)
    (sets_refute c.exact_sets_refute.ensures c.requires.well_formed.0 h c.args.kind c.args.dead c.loop-at.builder.sets.items c.push.new.self.items c.new-2.result
    (c.beginnings_are_well_formed.ensures c.requires.well_formed.0 h (c.args.dead + 1) c.requires.well_formed.1)
    (let place = c.requires.place in omega (arith, inside)) (omega (arith, built.count, all_taken)) sets c.in_ok-push.ensures.items c.new-2.ensures.items c.requires.dead.failing)
  where
    same : {a b : Refutation} (x y : Result (Option Refutation) OutOfMemory) → x ≡ Ok (Some a) → y ≡ Ok (Some b) → x ≡ y → a ≡ b
    same x y p q e = cc
