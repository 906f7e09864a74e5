use Rattle.std.proofs.Common.{◌≡◌, Bool, List, Some, slice_get, sym, ◌∙◌, subst, refl, inr, Contains, arith}
use Rattle.std.proofs.lemmas.Option.{slice_get_within}
use Rattle.lin_events.specs.declared.items.Item.{Item}
use Rattle.lin_events.specs.declared.events.Event.{Event}
use Rattle.lin_events.specs.declared.events.Body.{Body}
use Rattle.lin_events.specs.declared.events.Body.TheVariants.{Fail}
use Rattle.lin_events.specs.declared.calls.Name.{Name}
use Rattle.lin_events.specs.WellFormed as formed
use Rattle.lin_order.specs.ConfigurationLaws.{with_event}
use Rattle.lin_queues.specs.Laws.{Completes}
use Rattle.lin_queues.specs.Engines.{AreDebtsOf}
use Rattle.lin_queues.specs.Opens.{AreOpen}
use Rattle.lin_queues.proofs.Lists.{ok_is}
use Rattle.lin_queues.proofs.Going.{some_open, goes_on, has_failed, taken_off, told_failed}
use Rattle.lin_queues.proofs.Listing.{elements_on, one_longer}
use Rattle.lin_queues.specs.Reaching.{Fails, failed}
use Rattle.lin_queues.proofs.Gaining.{made_next, too_many}
use Rattle.lin_queues.proofs.debts.Debts.fail.Goals as goal
use Rattle.lin_queues.proofs.debts.Debts.fail.Goals.{After-remove-operation}

completes_fail : (body : Body) (name : Name) → body ≡ Fail name → formed.Completes body name
completes_fail body name is = subst (λ b. formed.Completes b name) (sym is) refl

-- the event completes the operation that was taken off the list
completed : (c : After-remove-operation) (event : Event) (name : Name) → event.body ≡ Fail name → event.process ≡ c.args.process → (functions : Item → Name → Bool) (h : List Event) → formed.IsWellFormed functions (with_event h event) → AreDebtsOf c.args.self.now h
    → AreOpen (with_event h event) c.remove-operation.new.self.items × Completes functions h event c.remove-operation.result.place c.remove-operation.result.call
completed c event name body process functions h well_formed debts =
    let found = c.in-Some.ensures.found in
    taken_off c.well_formed_is_alternating.ensures c.ends_are_unique.ensures functions h event name (completes_fail event.body name body) (inr (name, body)) well_formed c.args.self.now.pending.items debts.opened c.in-Some.at found.0
    (subst (λ l. slice_get l c.in-Some.at ≡ Some found.0) c.as_slice.ensures.value found.1) (found.2 ∙ sym process) c.remove-operation.new.self.items c.remove-operation.ensures.items c.remove-operation.result c.remove-operation.ensures.value

pub returns-clause-next : goal.returns-clause-next
returns-clause-next c = λ is event name body process functions h well_formed debts.
    let self = c.args.self.now in
    let off = completed (goal.at.returns-clause-next c).After-remove-operation event name body process functions h well_formed debts in
    let opened = off.0 in
    let same = off.1 in
    let next = c.go_on.ensures.next (ok_is is) in
    subst (λ d. AreDebtsOf d (with_event h event)) (sym next.1)
    (goes_on _ (with_event h event) c.in_ok-next.next.is_full next.0 next.2 (one_longer h event self.reached debts.reached) (elements_on h event self.elements debts.elements) opened
    (λ whole order is_whole.
    let was = told_failed c.debts_at_start.ensures.beginning h event c.debts_after_events.ensures.fail functions c.remove-operation.result.place c.remove-operation.result.call name same body self debts whole order is_whole in
    c.in_ok-next.ensures.told (with_event h event) whole order self.elements.all.items (subst (AreOpen (with_event h event)) (sym c.as_slice-3.ensures.value) opened) is_whole
    (was.0, subst (λ l. Contains l was.0) (sym c.as_slice-2.ensures.value) was.1, was.2, was.3))
    (made_next c.as_slice-2.result.now c.as_slice-3.result.now c.in_ok-next.next (Fails c.remove-operation.result.place) h (with_event h event) self.elements.all.items self.elements.all.items c.in_ok-next.ensures.gathered
    (subst (AreOpen (with_event h event)) (sym c.as_slice-3.ensures.value) opened)
    (λ m there. debts.made m (subst (λ l. Contains l m) c.as_slice-2.ensures.value there))
    (λ v w reached fails payable. failed event name c.remove-operation.result.place same.key c.remove-operation.result.call body same.is_open reached fails payable)))

pub returns-clause-fails : goal.returns-clause-fails
returns-clause-fails c = λ is event name body process functions h well_formed debts.
    let self = c.args.self.now in
    let off = completed (goal.at.returns-clause-fails c).After-remove-operation event name body process functions h well_formed debts in
    let opened = off.0 in
    let same = off.1 in
    let none = c.go_on.ensures.fails (ok_is is) in
    has_failed c.no_debts.ensures (with_event h event) self.elements.all.items c.in_ok-next.next.members.items c.in_ok-next.next.is_full none.0 none.1
    (λ whole order is_whole.
    let was = told_failed c.debts_at_start.ensures.beginning h event c.debts_after_events.ensures.fail functions c.remove-operation.result.place c.remove-operation.result.call name same body self debts whole order is_whole in
    c.in_ok-next.ensures.told (with_event h event) whole order self.elements.all.items (subst (AreOpen (with_event h event)) (sym c.as_slice-3.ensures.value) opened) is_whole
    (was.0, subst (λ l. Contains l was.0) (sym c.as_slice-2.ensures.value) was.1, was.2, was.3))

pub returns-clause-gives_up : goal.returns-clause-gives_up
returns-clause-gives_up c = λ is event name body process functions h well_formed debts less.
    let self = c.args.self.now in
    let off = completed (goal.at.returns-clause-gives_up c).After-remove-operation event name body process functions h well_formed debts in
    let opened = off.0 in
    let same = off.1 in
    too_many c.as_slice-2.result.now c.as_slice-3.result.now c.in_ok-next.next (Fails c.remove-operation.result.place) (with_event h event) self.elements.all.items c.in_ok-next.ensures.gathered (c.go_on.ensures.gives_up (ok_is is))
    (made_next c.as_slice-2.result.now c.as_slice-3.result.now c.in_ok-next.next (Fails c.remove-operation.result.place) h (with_event h event) self.elements.all.items self.elements.all.items c.in_ok-next.ensures.gathered
    (subst (AreOpen (with_event h event)) (sym c.as_slice-3.ensures.value) opened)
    (λ m there. debts.made m (subst (λ l. Contains l m) c.as_slice-2.ensures.value there))
    (λ v w reached fails payable. failed event name c.remove-operation.result.place same.key c.remove-operation.result.call body same.is_open reached fails payable))

pub returns-in_default-clause-gives_up : goal.returns-in_default-clause-gives_up
returns-in_default-clause-gives_up c = λ is event name body process functions h well_formed debts less.
    absurd (some_open c.well_formed_is_alternating.ensures c.ends_are_unique.ensures functions h event name (completes_fail event.body name body) well_formed c.args.self.now.pending.items debts.opened
    (λ k o at same. c.in_default.ensures.missing k o (subst (λ l. slice_get l k ≡ Some o) (sym c.as_slice.ensures.value) at) (same ∙ process)))

pub remove-operation-requires : goal.remove-operation-requires
remove-operation-requires c =
    let found = c.in-Some.ensures.found in
    let inside = slice_get_within c.args.self.now.pending.items c.in-Some.at found.0 (subst (λ l. slice_get l c.in-Some.at ≡ Some found.0) c.as_slice.ensures.value found.1) in
    let len = c.args.self.now.pending.ok.0 in
    omega arith
