use Rattle.std.proofs.Common.{◌≡◌, ◌+◌, Bool, List, Ok, OnOk, Result, sym, subst, take}
use Rattle.lin_events.specs.declared.items.Item.{Item}
use Rattle.lin_events.specs.declared.calls.Name.{Name}
use Rattle.lin_events.specs.declared.events.Event.{Event}
use Rattle.lin_events.specs.Operations.{IsEvent}
use Rattle.lin_events.specs.WellFormed.{IsWellFormed}
use Rattle.lin_objects.specs.Steps.{Step, start}
use Rattle.lin_objects.specs.Observing.{observes}
use Rattle.lin_objects.specs.Overwriting.{overwrites}
use Rattle.lin_frontier.specs.Frontiers.{IsNextEvent, IsPending}
use Rattle.lin_members.specs.Compressed.{IsCompressed}
use Rattle.lin_order.specs.Configurations.{IsOver}
use Rattle.lin_order.specs.Linearizable.{IsLinearizableAs}
use Rattle.lin_possibilities.specs.declared.run.Run.{Run}
use Rattle.lin_possibilities.specs.declared.run.Taken.TheVariants.{Next}
use Rattle.lin_possibilities.specs.Running.{IsKnown, kind_of}
use Rattle.lin_possibilities.proofs.Taking.{event_taken, next_event}
use Rattle.lin_possibilities.proofs.run.Run.take_in.Goals as goal
use Rattle.lin_possibilities.proofs.run.Run.take_in.Goals.{In_ok-step}

next : (c : In_ok-step) (functions : Item → Name → Bool) (h : List Event) → IsWellFormed functions h → IsEvent h c.args.at c.args.event.now → IsKnown c.args.self.now h c.args.at
    → IsNextEvent functions (take c.args.at h) c.args.self.now.pending.items c.args.at c.args.event.now
next c functions h well there known = next_event c.beginnings_are_well_formed.ensures functions h c.args.at c.args.event.now c.args.self.now.pending.items well there known.opened

-- the same, of the slice that was passed on
passed : (c : In_ok-step) (functions : Item → Name → Bool) (h : List Event) → IsWellFormed functions h → IsEvent h c.args.at c.args.event.now → IsKnown c.args.self.now h c.args.at
    → IsNextEvent functions (take c.args.at h) c.as_slice.result.now c.args.at c.args.event.now
passed c functions h well there known = subst (λ l. IsNextEvent functions (take c.args.at h) l c.args.at c.args.event.now) (sym c.as_slice.ensures.value) (next c functions h well there known)

pub returns-in-Empty-clause-empty : goal.returns-in-Empty-clause-empty
returns-in-Empty-clause-empty c = λ _ functions h well there known lin.
    let self = c.args.self.now in
    c.in_ok-step.ensures.empty c.in-Empty.is functions (take c.args.at h) (passed (goal.at.returns-in-Empty-clause-empty c).In_ok-step functions h well there known) known.compressed
    (subst (IsLinearizableAs (kind_of self)) (event_taken h c.args.at c.args.event.now there) lin)

pub returns-in-Over-clause-over : goal.returns-in-Over-clause-over
returns-in-Over-clause-over c = λ _ functions h well there known.
    let self = c.args.self.now in (
      c.args.at + 1,
      subst (λ g. IsOver (start (kind_of self)) (Step (kind_of self)) g c.args.budget) (sym (event_taken h c.args.at c.args.event.now there))
          (c.in_ok-step.ensures.over c.in-Over.is functions (take c.args.at h) (passed (goal.at.returns-in-Over-clause-over c).In_ok-step functions h well there known) known.compressed),
    )

pub returns-in-OverBefore-clause-over : goal.returns-in-OverBefore-clause-over
returns-in-OverBefore-clause-over c = λ _ functions h well there known.
    (c.args.at, (c.in_ok-step.ensures.before c.in-OverBefore.is functions (take c.args.at h) (passed (goal.at.returns-in-OverBefore-clause-over c).In_ok-step functions h well there known) known.compressed).1)

-- what holds of an answer that is Ok
on_ok : {T E P : Type 0} (r : Result T E) (x : T) → r ≡ Ok x → OnOk r P → P
on_ok {T} {E} {P} r x is holds = subst (λ (a : Result T E). OnOk a P) is holds

pub returns-in-Same-clause-next : goal.returns-in-Same-clause-next
returns-in-Same-clause-next c = λ ok functions h well there known.
    let self = c.args.self.now in
    let at = c.args.at in
    let step = (goal.at.returns-in-Same-clause-next c).In_ok-step in
    let further = event_taken h at c.args.event.now there in
    subst (λ (r : Run). IsKnown r h (at + 1)) (sym c.open.ensures.others) (record {
      compressed = subst (λ g. IsCompressed (start (kind_of self)) (Step (kind_of self)) (observes (kind_of self)) (overwrites (kind_of self)) g self.frontier c.advance.new.nodes) (sym further)
          (c.in_ok-step.ensures.same c.in-Same.is functions (take at h) (passed step functions h well there known) known.compressed);
      opened = subst (λ g. IsPending g c.open.new.self.pending.items) (sym further) (on_ok c.open.result Next ok c.open.ensures.opened functions (take at h) (next step functions h well there known));
    })

pub returns-in-Next-clause-next : goal.returns-in-Next-clause-next
returns-in-Next-clause-next c = λ ok functions h well there known.
    let self = c.args.self.now in
    let at = c.args.at in
    let step = (goal.at.returns-in-Next-clause-next c).In_ok-step in
    let further = event_taken h at c.args.event.now there in
    let pending = c.open-in-Next.new.self.pending in
    let put = c.put.ensures in
    subst (λ (r : Run). IsKnown r h (at + 1)) (sym c.open-in-Next.ensures.others) (subst (λ (r : Run). IsKnown (record r { pending = pending }) h (at + 1)) (sym put) (record {
      compressed = subst (λ g. IsCompressed (start (kind_of self)) (Step (kind_of self)) (observes (kind_of self)) (overwrites (kind_of self)) g c.in-Next.next c.advance.new.nodes) (sym further)
          (c.in_ok-step.ensures.next c.in-Next.next c.in-Next.is functions (take at h) (passed step functions h well there known) known.compressed);
      opened = subst (λ g. IsPending g pending.items) (sym further) (on_ok c.open-in-Next.result Next ok c.open-in-Next.ensures.opened functions (take at h)
          (subst (λ (r : Run). IsNextEvent functions (take at h) r.pending.items at c.args.event.now) (sym put) (next step functions h well there known)));
    }))
