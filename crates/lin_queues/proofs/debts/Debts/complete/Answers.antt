use Rattle.std.proofs.Common.{◌≡◌, Bool, List, Some, slice_get, sym, ◌∙◌, subst, refl, inl, arith}
use Rattle.std.proofs.lemmas.Option.{slice_get_within}
use Rattle.lin_events.specs.declared.items.Item.{Item}
use Rattle.lin_events.specs.declared.events.Event.{Event}
use Rattle.lin_events.specs.declared.events.Body.{Body}
use Rattle.lin_events.specs.declared.events.Body.TheVariants.{Ok}
use Rattle.lin_events.specs.declared.calls.Call.{Call}
use Rattle.lin_events.specs.declared.calls.Name.{Name}
use Rattle.lin_events.specs.declared.calls.Reply.{Reply}
use Rattle.lin_events.specs.WellFormed as formed
use Rattle.lin_order.specs.ConfigurationLaws.{with_event}
use Rattle.lin_queues.specs.Laws.{Completes}
use Rattle.lin_queues.specs.Engines.{AreDebtsOf, IsCompleting}
use Rattle.lin_queues.proofs.Going.{never, some_open, taken_off}
use Rattle.lin_queues.proofs.debts.Debts.complete.Goals as goal
use Rattle.lin_queues.proofs.debts.Debts.complete.Goals.{After-remove-operation}

completes_ok : (body : Body) (name : Name) (reply : Reply) → body ≡ Ok name reply → formed.Completes body name
completes_ok body name reply is = subst (λ b. formed.Completes b name) (sym is) refl

-- the event completes the operation that was taken off the list
completed : (c : After-remove-operation) (call : Call) → c.remove-operation.result.call ≡ call → (event : Event) (name : Name) → event.body ≡ Ok name c.args.reply.now → event.process ≡ c.args.process
    → (functions : Item → Name → Bool) (h : List Event) → formed.IsWellFormed functions (with_event h event) → AreDebtsOf c.args.self.now h
    → IsCompleting (record c.args.self.now { pending = c.remove-operation.new.self }) functions h event c.remove-operation.result.place call c.args.reply.now
completed c call is event name body process functions h well_formed debts =
    let found = c.in-Some.ensures.found in
    let off = taken_off c.well_formed_is_alternating.ensures c.ends_are_unique.ensures functions h event name (completes_ok event.body name c.args.reply.now body) (inl (name, c.args.reply.now, body)) well_formed c.args.self.now.pending.items debts.opened c.in-Some.at found.0
    (subst (λ l. slice_get l c.in-Some.at ≡ Some found.0) c.as_slice.ensures.value found.1) (found.2 ∙ sym process) c.remove-operation.new.self.items c.remove-operation.ensures.items c.remove-operation.result c.remove-operation.ensures.value in
    record {
      completes = subst (Completes functions h event c.remove-operation.result.place) is off.1;
      name = name;
      body = body;
      reached = debts.reached;
      elements = debts.elements;
      opened = off.0;
      told = debts.told;
      made = debts.made;
    }

pub returns-in-Enqueue-clause-next : goal.returns-in-Enqueue-clause-next
returns-in-Enqueue-clause-next c = λ is event name body process functions h well_formed debts.
    c.enqueue.ensures.next is functions h event (completed (goal.at.returns-in-Enqueue-clause-next c).After-remove-operation _ c.in-Enqueue.is event name body process functions h well_formed debts)

pub returns-in-Enqueue-clause-fails : goal.returns-in-Enqueue-clause-fails
returns-in-Enqueue-clause-fails c = λ is event name body process functions h well_formed debts.
    c.enqueue.ensures.fails is functions h event (completed (goal.at.returns-in-Enqueue-clause-fails c).After-remove-operation _ c.in-Enqueue.is event name body process functions h well_formed debts)

pub returns-in-Enqueue-clause-gives_up : goal.returns-in-Enqueue-clause-gives_up
returns-in-Enqueue-clause-gives_up c = λ is event name body process functions h well_formed debts less.
    c.enqueue.ensures.gives_up is functions h event (completed (goal.at.returns-in-Enqueue-clause-gives_up c).After-remove-operation _ c.in-Enqueue.is event name body process functions h well_formed debts)

pub returns-in-Dequeue-clause-next : goal.returns-in-Dequeue-clause-next
returns-in-Dequeue-clause-next c = λ is event name body process functions h well_formed debts.
    c.dequeue.ensures.next is functions h event (completed (goal.at.returns-in-Dequeue-clause-next c).After-remove-operation _ c.in-Dequeue.is event name body process functions h well_formed debts)

pub returns-in-Dequeue-clause-fails : goal.returns-in-Dequeue-clause-fails
returns-in-Dequeue-clause-fails c = λ is event name body process functions h well_formed debts.
    c.dequeue.ensures.fails is functions h event (completed (goal.at.returns-in-Dequeue-clause-fails c).After-remove-operation _ c.in-Dequeue.is event name body process functions h well_formed debts)

pub returns-in-Dequeue-clause-gives_up : goal.returns-in-Dequeue-clause-gives_up
returns-in-Dequeue-clause-gives_up c = λ is event name body process functions h well_formed debts less.
    c.dequeue.ensures.gives_up is functions h event (completed (goal.at.returns-in-Dequeue-clause-gives_up c).After-remove-operation _ c.in-Dequeue.is event name body process functions h well_formed debts)

pub returns-in_default-call-clause-fails : goal.returns-in_default-call-clause-fails
returns-in_default-call-clause-fails c = λ is event name body process functions h well_formed debts.
    let same = completed (goal.at.returns-in_default-call-clause-fails c).After-remove-operation _ refl event name body process functions h well_formed debts in
    never c.no_debts.ensures (with_event h event) (λ whole order is_whole.
    c.other_ok_is_illegal.ensures.call functions h event c.remove-operation.result.place c.remove-operation.result.call name c.args.reply.now whole order same.completes body is_whole (λ item e. c.in_default-call.not-Enqueue item e) (λ e. c.in_default-call.not-Dequeue e))

pub returns-in_default-clause-gives_up : goal.returns-in_default-clause-gives_up
returns-in_default-clause-gives_up c = λ is event name body process functions h well_formed debts less.
    absurd (some_open c.well_formed_is_alternating.ensures c.ends_are_unique.ensures functions h event name (completes_ok event.body name c.args.reply.now body) well_formed c.args.self.now.pending.items debts.opened
    (λ k o at same. c.in_default.ensures.missing k o (subst (λ l. slice_get l k ≡ Some o) (sym c.as_slice.ensures.value) at) (same ∙ process)))

pub remove-operation-requires : goal.remove-operation-requires
remove-operation-requires c =
    let found = c.in-Some.ensures.found in
    let inside = slice_get_within c.args.self.now.pending.items c.in-Some.at found.0 (subst (λ l. slice_get l c.in-Some.at ≡ Some found.0) c.as_slice.ensures.value found.1) in
    let len = c.args.self.now.pending.ok.0 in
    omega arith
