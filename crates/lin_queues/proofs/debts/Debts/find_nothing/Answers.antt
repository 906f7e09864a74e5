use Rattle.std.proofs.Common.{length, sym, subst, Contains}
use Rattle.lin_events.specs.declared.calls.Call.TheVariants.{Dequeue}
use Rattle.lin_events.specs.declared.calls.Reply.TheVariants.{Value}
use Rattle.lin_events.specs.declared.calls.Val.TheVariants.{Nil}
use Rattle.lin_order.specs.ConfigurationLaws.{with_event}
use Rattle.lin_queues.specs.Engines.{AreDebtsOf}
use Rattle.lin_queues.specs.Gathering.{IsCovered, IsReturning}
use Rattle.lin_queues.specs.Members.{Told, view_of}
use Rattle.lin_queues.specs.Opens.{AreOpen}
use Rattle.lin_queues.proofs.Lists.{ok_is}
use Rattle.lin_queues.proofs.Going.{as_before, goes_on, has_failed, is_returning, old_enqueues, old_returned}
use Rattle.lin_queues.proofs.Listing.{elements_on, one_longer}
use Rattle.lin_queues.specs.Reaching.{FindsNothing, found_nothing}
use Rattle.lin_queues.proofs.Gaining.{made_next, too_many}
use Rattle.lin_queues.proofs.debts.Debts.find_nothing.Goals as goal

pub returns-clause-next : goal.returns-clause-next
returns-clause-next c = λ is functions h event completing.
    let self = c.args.self.now in
    let next = c.go_on.ensures.next (ok_is is) in
    subst (λ d. AreDebtsOf d (with_event h event)) (sym next.1)
    (goes_on _ (with_event h event) c.in_ok-next.next.is_full next.0 next.2 (one_longer h event self.reached completing.reached) (elements_on h event self.elements completing.elements) completing.opened
    (λ whole order is_whole.
    let was = as_before self functions h event c.args.place Dequeue (Value Nil) completing c.debts_at_start.ensures.beginning whole order is_whole in
    let returning = is_returning self functions h event c.args.place Dequeue (Value Nil) completing whole order self.elements.all.items (old_enqueues self functions h event c.args.place Dequeue (Value Nil) completing) (old_returned self functions h event c.args.place Dequeue (Value Nil) completing) is_whole in
    subst (λ l. IsCovered whole order (length (with_event h event)) l c.in_ok-next.next.members.items c.in_ok-next.next.is_full) c.as_slice-2.ensures.value
    (c.in_ok-next.ensures.told functions h event whole order completing.reached
    (subst (AreOpen (with_event h event)) (sym c.as_slice-3.ensures.value) completing.opened)
    (subst (IsReturning functions h event c.args.place Dequeue (Value Nil) whole order) (sym c.as_slice-2.ensures.value) returning)
    (was.0, subst (λ l. Contains l was.0) (sym c.as_slice.ensures.value) was.1, subst (λ l. Told whole order (length h) l (view_of was.0)) (sym c.as_slice-2.ensures.value) was.2)))
    (made_next c.as_slice.result.now c.as_slice-3.result.now c.in_ok-next.next (FindsNothing c.as_slice-2.result.now c.args.place self.reached) h (with_event h event) self.elements.all.items self.elements.all.items c.in_ok-next.ensures.gathered
    (subst (AreOpen (with_event h event)) (sym c.as_slice-3.ensures.value) completing.opened) (λ m there. completing.made m (subst (λ l. Contains l m) c.as_slice.ensures.value there))
    (λ v w reached finds payable. found_nothing event completing.name c.args.place completing.completes.key completing.body completing.completes.is_open reached
    (subst (λ l. FindsNothing l c.args.place (length h) v w) c.as_slice-2.ensures.value (subst (λ n. FindsNothing c.as_slice-2.result.now c.args.place n v w) completing.reached finds)) payable)))

pub returns-clause-fails : goal.returns-clause-fails
returns-clause-fails c = λ is functions h event completing.
    let self = c.args.self.now in
    let none = c.go_on.ensures.fails (ok_is is) in
    has_failed c.no_debts.ensures (with_event h event) self.elements.all.items c.in_ok-next.next.members.items c.in_ok-next.next.is_full none.0 none.1
    (λ whole order is_whole.
    let was = as_before self functions h event c.args.place Dequeue (Value Nil) completing c.debts_at_start.ensures.beginning whole order is_whole in
    let returning = is_returning self functions h event c.args.place Dequeue (Value Nil) completing whole order self.elements.all.items (old_enqueues self functions h event c.args.place Dequeue (Value Nil) completing) (old_returned self functions h event c.args.place Dequeue (Value Nil) completing) is_whole in
    subst (λ l. IsCovered whole order (length (with_event h event)) l c.in_ok-next.next.members.items c.in_ok-next.next.is_full) c.as_slice-2.ensures.value
    (c.in_ok-next.ensures.told functions h event whole order completing.reached
    (subst (AreOpen (with_event h event)) (sym c.as_slice-3.ensures.value) completing.opened)
    (subst (IsReturning functions h event c.args.place Dequeue (Value Nil) whole order) (sym c.as_slice-2.ensures.value) returning)
    (was.0, subst (λ l. Contains l was.0) (sym c.as_slice.ensures.value) was.1, subst (λ l. Told whole order (length h) l (view_of was.0)) (sym c.as_slice-2.ensures.value) was.2)))

pub returns-clause-gives_up : goal.returns-clause-gives_up
returns-clause-gives_up c = λ is functions h event completing.
    let self = c.args.self.now in
    too_many c.as_slice.result.now c.as_slice-3.result.now c.in_ok-next.next (FindsNothing c.as_slice-2.result.now c.args.place self.reached) (with_event h event) self.elements.all.items c.in_ok-next.ensures.gathered (c.go_on.ensures.gives_up (ok_is is))
    (made_next c.as_slice.result.now c.as_slice-3.result.now c.in_ok-next.next (FindsNothing c.as_slice-2.result.now c.args.place self.reached) h (with_event h event) self.elements.all.items self.elements.all.items c.in_ok-next.ensures.gathered
    (subst (AreOpen (with_event h event)) (sym c.as_slice-3.ensures.value) completing.opened) (λ m there. completing.made m (subst (λ l. Contains l m) c.as_slice.ensures.value there))
    (λ v w reached finds payable. found_nothing event completing.name c.args.place completing.completes.key completing.body completing.completes.is_open reached
    (subst (λ l. FindsNothing l c.args.place (length h) v w) c.as_slice-2.ensures.value (subst (λ n. FindsNothing c.as_slice-2.result.now c.args.place n v w) completing.reached finds)) payable))
