use Rattle.std.proofs.Common.{Bool, List, sym, subst, take}
use Rattle.lin_events.specs.declared.items.Item.{Item}
use Rattle.lin_events.specs.declared.calls.Name.{Name}
use Rattle.lin_events.specs.declared.events.Event.{Event}
use Rattle.lin_events.specs.Operations.{IsEvent}
use Rattle.lin_events.specs.WellFormed.{IsWellFormed}
use Rattle.lin_objects.specs.Steps.{Step, start}
use Rattle.lin_frontier.specs.Frontiers.{IsFrontier, IsNextEvent, IsPending}
use Rattle.lin_order.specs.Configurations.{IsOver}
use Rattle.lin_chain.specs.Exact.{IsExact}
use Rattle.lin_order.specs.Linearizable.{IsLinearizableAs}
use Rattle.lin_engines.specs.lemmas.Events.{event_taken, next_event}
use Rattle.lin_chain.proofs.exact.ExactRun.take_in.Goals as goal
use Rattle.lin_chain.proofs.exact.ExactRun.take_in.Goals.{In_ok-step}

next : (c : In_ok-step) (functions : Item → Name → Bool) (h : List Event) → IsWellFormed functions h → IsEvent h c.args.at c.args.event.now → IsExact c.args.self.now h c.args.at
    → IsNextEvent functions (take c.args.at h) c.args.self.now.pending.items c.args.at c.args.event.now
next c functions h well there exact = next_event c.beginnings_are_well_formed.ensures functions h c.args.at c.args.event.now c.args.self.now.pending.items well there exact.opened

-- the same, of the slice that was passed on
passed : (c : In_ok-step) (functions : Item → Name → Bool) (h : List Event) → IsWellFormed functions h → IsEvent h c.args.at c.args.event.now → IsExact c.args.self.now h c.args.at
    → IsNextEvent functions (take c.args.at h) c.as_slice.result.now c.args.at c.args.event.now
passed c functions h well there exact = subst (λ l. IsNextEvent functions (take c.args.at h) l c.args.at c.args.event.now) (sym c.as_slice.ensures.value) (next c functions h well there exact)

pub returns-in_ok-take_in-in-Next-clause-next : goal.returns-in_ok-take_in-in-Next-clause-next
returns-in_ok-take_in-in-Next-clause-next c = λ _ functions h well there exact.
    let self = c.args.self.now in
    let at = c.args.at in
    let step = (goal.at.returns-in_ok-take_in-in-Next-clause-next c).In_ok-step in
    let further = event_taken h at c.args.event.now there in
    record {
      configurations = subst (λ g. IsFrontier (start self.object.kind) (Step self.object.kind) g c.in-Next.next c.advance_all.new.nodes) (sym further)
          (c.in_ok-step.ensures.next c.in-Next.next c.in-Next.is functions (take at h) (passed step functions h well there exact) exact.configurations);
      opened = subst (λ g. IsPending g c.take_in.new.pending.items) (sym further) (c.in_ok-take_in-in-Next.ensures.ok functions (take at h) (next step functions h well there exact));
    }

pub returns-in-Empty-clause-empty : goal.returns-in-Empty-clause-empty
returns-in-Empty-clause-empty c = λ _ functions h well there exact lin.
    let self = c.args.self.now in
    c.in_ok-step.ensures.empty c.in-Empty.is functions (take c.args.at h) (passed (goal.at.returns-in-Empty-clause-empty c).In_ok-step functions h well there exact) exact.configurations
    (subst (IsLinearizableAs self.object.kind) (event_taken h c.args.at c.args.event.now there) lin)

pub returns-in-Over-clause-over : goal.returns-in-Over-clause-over
returns-in-Over-clause-over c = λ _ functions h well there exact.
    let self = c.args.self.now in
    subst (λ g. IsOver (start self.object.kind) (Step self.object.kind) g c.args.budget) (sym (event_taken h c.args.at c.args.event.now there))
    (c.in_ok-step.ensures.over c.in-Over.is functions (take c.args.at h) (passed (goal.at.returns-in-Over-clause-over c).In_ok-step functions h well there exact) exact.configurations)
