use Rattle.std.proofs.Common.{◌≡◌, ◌≤◌, ◌<◌, ◌+◌, ◌∙◌, Ok, ap, sym, subst, take, arith, List}
use Rattle.std.proofs.lemmas.Option.{slice_get_within}
use Rattle.lin_events.specs.declared.events.Event.{Event}
use Rattle.lin_events.specs.Operations.{IsEvent}
use Rattle.lin_objects.specs.Steps.{Step, start}
use Rattle.lin_objects.specs.declared.any.Any.{Any}
use Rattle.lin_order.specs.Configurations.{IsOver}
use Rattle.lin_order.specs.Linearizable.{IsLinearizableAs}
use Rattle.lin_engines.specs.Engines.{IsNext}
use Rattle.lin_engines.specs.Replays.{IsReplay}
use Rattle.lin_engines.proofs.replay.ReplayEngine.take_in.Goals as goal
use Rattle.lin_engines.proofs.replay.ReplayEngine.take_in.Goals.{In_ok-advance}

-- the event is the next one once all is prepared
there : (c : In_ok-advance) (h : List Event) → IsNext h c.args.self.now.reached c.args.event.now → IsEvent h c.prepare.new.self.reached c.args.event.now
there c h next = subst (λ m. IsEvent h m c.args.event.now) (sym c.prepare.ensures.reached) next.stands

pub returns-in-Next-clause-right : goal.returns-in-Next-clause-right
returns-in-Next-clause-right c = λ h next right.
    c.advance.ensures.right next.well_formed.0 h next.well_formed.1 (there (goal.at.returns-in-Next-clause-right c).In_ok-advance h next) (c.in_ok-prepare.ensures.prepared h right)

pub returns-in-Empty-clause-said : goal.returns-in-Empty-clause-said
returns-in-Empty-clause-said c = λ h next right lin.
    let mid = c.prepare.new.self in
    c.advance.ensures.empty (c.in_ok-advance.was ∙ ap Ok c.in-Empty.is) next.well_formed.0 h next.well_formed.1 (there (goal.at.returns-in-Empty-clause-said c).In_ok-advance h next) (c.in_ok-prepare.ensures.prepared h right)
    (subst (λ (o : Any). IsLinearizableAs o.kind (take (mid.reached + 1) h)) (sym c.prepare.ensures.object)
    (subst (λ m. IsLinearizableAs c.args.self.now.object.kind (take (m + 1) h)) (sym c.prepare.ensures.reached) lin))

pub returns-in-Over-clause-said : goal.returns-in-Over-clause-said
returns-in-Over-clause-said c = λ h next right.
    let over = c.advance.ensures.over (c.in_ok-advance.was ∙ ap Ok c.in-Over.is) next.well_formed.0 h next.well_formed.1 (there (goal.at.returns-in-Over-clause-said c).In_ok-advance h next) (c.in_ok-prepare.ensures.prepared h right) in (
      omega arith,
      omega arith,
      record {
        inside = slice_get_within h c.args.self.now.reached c.args.event.now next.stands;
        over = subst (λ (o : Any). IsOver (start o.kind) (Step o.kind) (take (c.args.self.now.reached + 1) h) c.args.budget) c.prepare.ensures.object
            (subst (λ m. IsOver (start c.prepare.new.self.object.kind) (Step c.prepare.new.self.object.kind) (take (m + 1) h) c.args.budget) c.prepare.ensures.reached over);
      },
    )

pub returns-in-OverBefore-clause-said : goal.returns-in-OverBefore-clause-said
returns-in-OverBefore-clause-said c = λ h next right.
    let over = c.advance.ensures.before (c.in_ok-advance.was ∙ ap Ok c.in-OverBefore.is) next.well_formed.0 h next.well_formed.1 (there (goal.at.returns-in-OverBefore-clause-said c).In_ok-advance h next) (c.in_ok-prepare.ensures.prepared h right) in
    let p = c.saturating_sub.result in
    let one_back : p + 1 ≡ c.args.self.now.reached = omega (arith, over.0, c.saturating_sub.ensures, c.prepare.ensures.reached) in
    let inside = slice_get_within h c.args.self.now.reached c.args.event.now next.stands in (
      omega (arith, one_back),
      omega (arith, one_back),
      record {
        inside = omega (arith, one_back, inside);
        over = subst (λ (o : Any). IsOver (start o.kind) (Step o.kind) (take (p + 1) h) c.args.budget) c.prepare.ensures.object
            (subst (λ m. IsOver (start c.prepare.new.self.object.kind) (Step c.prepare.new.self.object.kind) (take m h) c.args.budget) (c.prepare.ensures.reached ∙ sym one_back) over.1);
      },
    )
