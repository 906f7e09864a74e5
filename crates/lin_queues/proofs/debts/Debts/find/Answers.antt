use Rattle.std.proofs.Common.{◌≡◌, ◌<◌, ℕ, Some, slice_get, length, sym, subst, Contains}
use Rattle.lin_events.specs.declared.calls.Call.TheVariants.{Dequeue}
use Rattle.lin_events.specs.declared.calls.Reply.TheVariants.{Value}
use Rattle.lin_events.specs.declared.calls.Val.TheVariants.{Item as Held}
use Rattle.lin_order.specs.ConfigurationLaws.{with_event}
use Rattle.lin_queues.specs.declared.elements.Element.{Element}
use Rattle.lin_queues.specs.Chains.{IsLinked}
use Rattle.lin_queues.specs.Engines.{AreDebtsOf}
use Rattle.lin_queues.specs.Gathering.{IsCovered, IsReturning}
use Rattle.lin_queues.specs.Members.{Told, view_of}
use Rattle.lin_queues.specs.Opens.{AreOpen}
use Rattle.lin_queues.proofs.Lists.{ok_is}
use Rattle.lin_queues.proofs.Going.{as_before, goes_on, has_failed, is_returning, old_enqueues, old_returned}
use Rattle.lin_queues.proofs.Listing.{elements_on, one_longer}
use Rattle.lin_queues.specs.Reaching.{Finds, found}
use Rattle.lin_queues.proofs.Gaining.{made_next, too_many}
use Rattle.lin_queues.proofs.debts.Debts.find.Goals as goal

pub returns-clause-next : goal.returns-clause-next
returns-clause-next c = λ is functions h event completing.
    let self = c.args.self.now in
    let reply = Value (Held c.args.item) in
    let next = c.go_on.ensures.next (ok_is is) in
    subst (λ d. AreDebtsOf d (with_event h event)) (sym next.1)
    (goes_on _ (with_event h event) c.in_ok-next.next.is_full next.0 next.2 (one_longer h event self.reached completing.reached) (elements_on h event self.elements completing.elements) completing.opened
    (λ whole order is_whole.
    let was = as_before self functions h event c.args.place Dequeue reply completing c.debts_at_start.ensures.beginning whole order is_whole in
    let returning = is_returning self functions h event c.args.place Dequeue reply completing whole order self.elements.all.items (old_enqueues self functions h event c.args.place Dequeue reply completing) (old_returned self functions h event c.args.place Dequeue reply completing) is_whole in
    subst (λ l. IsCovered whole order (length (with_event h event)) l c.in_ok-next.next.members.items c.in_ok-next.next.is_full) c.as_slice-2.ensures.value
    (c.in_ok-next.ensures.told functions h event whole order completing.reached
    (subst IsLinked (sym c.as_slice-2.ensures.value) completing.elements.chained.linked)
    (subst (λ l. (i : ℕ) (x : Element) → slice_get l i ≡ Some x → x.item ≡ c.args.item → i < c.end_of.result) (sym c.as_slice-2.ensures.value) (c.end_of.ensures completing.elements.chained))
    (subst (AreOpen (with_event h event)) (sym c.as_slice-3.ensures.value) completing.opened)
    (subst (IsReturning functions h event c.args.place Dequeue (Value (Held c.args.item)) whole order) (sym c.as_slice-2.ensures.value) returning)
    (was.0, subst (λ l. Contains l was.0) (sym c.as_slice.ensures.value) was.1, subst (λ l. Told whole order (length h) l (view_of was.0)) (sym c.as_slice-2.ensures.value) was.2)))
    (made_next c.as_slice.result.now c.as_slice-3.result.now c.in_ok-next.next (Finds c.as_slice-2.result.now c.as_slice-3.result.now c.args.place c.args.item self.reached) h (with_event h event) self.elements.all.items self.elements.all.items c.in_ok-next.ensures.gathered
    (subst (AreOpen (with_event h event)) (sym c.as_slice-3.ensures.value) completing.opened) (λ m there. completing.made m (subst (λ l. Contains l m) c.as_slice.ensures.value there))
    (λ v w reached finds payable. found event completing.name c.args.place completing.completes.key c.args.item c.as_slice-3.result.now completing.body completing.completes.is_open (subst (AreOpen (with_event h event)) (sym c.as_slice-3.ensures.value) completing.opened) reached
    (subst (λ l. Finds l c.as_slice-3.result.now c.args.place c.args.item (length h) v w) c.as_slice-2.ensures.value (subst (λ n. Finds c.as_slice-2.result.now c.as_slice-3.result.now c.args.place c.args.item n v w) completing.reached finds)) payable)))

pub returns-clause-fails : goal.returns-clause-fails
returns-clause-fails c = λ is functions h event completing.
    let self = c.args.self.now in
    let reply = Value (Held c.args.item) in
    let none = c.go_on.ensures.fails (ok_is is) in
    has_failed c.no_debts.ensures (with_event h event) self.elements.all.items c.in_ok-next.next.members.items c.in_ok-next.next.is_full none.0 none.1
    (λ whole order is_whole.
    let was = as_before self functions h event c.args.place Dequeue reply completing c.debts_at_start.ensures.beginning whole order is_whole in
    let returning = is_returning self functions h event c.args.place Dequeue reply completing whole order self.elements.all.items (old_enqueues self functions h event c.args.place Dequeue reply completing) (old_returned self functions h event c.args.place Dequeue reply completing) is_whole in
    subst (λ l. IsCovered whole order (length (with_event h event)) l c.in_ok-next.next.members.items c.in_ok-next.next.is_full) c.as_slice-2.ensures.value
    (c.in_ok-next.ensures.told functions h event whole order completing.reached
    (subst IsLinked (sym c.as_slice-2.ensures.value) completing.elements.chained.linked)
    (subst (λ l. (i : ℕ) (x : Element) → slice_get l i ≡ Some x → x.item ≡ c.args.item → i < c.end_of.result) (sym c.as_slice-2.ensures.value) (c.end_of.ensures completing.elements.chained))
    (subst (AreOpen (with_event h event)) (sym c.as_slice-3.ensures.value) completing.opened)
    (subst (IsReturning functions h event c.args.place Dequeue (Value (Held c.args.item)) whole order) (sym c.as_slice-2.ensures.value) returning)
    (was.0, subst (λ l. Contains l was.0) (sym c.as_slice.ensures.value) was.1, subst (λ l. Told whole order (length h) l (view_of was.0)) (sym c.as_slice-2.ensures.value) was.2)))

pub returns-clause-gives_up : goal.returns-clause-gives_up
returns-clause-gives_up c = λ is functions h event completing.
    let self = c.args.self.now in
    too_many c.as_slice.result.now c.as_slice-3.result.now c.in_ok-next.next (Finds c.as_slice-2.result.now c.as_slice-3.result.now c.args.place c.args.item self.reached) (with_event h event) self.elements.all.items c.in_ok-next.ensures.gathered (c.go_on.ensures.gives_up (ok_is is))
    (made_next c.as_slice.result.now c.as_slice-3.result.now c.in_ok-next.next (Finds c.as_slice-2.result.now c.as_slice-3.result.now c.args.place c.args.item self.reached) h (with_event h event) self.elements.all.items self.elements.all.items c.in_ok-next.ensures.gathered
    (subst (AreOpen (with_event h event)) (sym c.as_slice-3.ensures.value) completing.opened) (λ m there. completing.made m (subst (λ l. Contains l m) c.as_slice.ensures.value there))
    (λ v w reached finds payable. found event completing.name c.args.place completing.completes.key c.args.item c.as_slice-3.result.now completing.body completing.completes.is_open (subst (AreOpen (with_event h event)) (sym c.as_slice-3.ensures.value) completing.opened) reached
    (subst (λ l. Finds l c.as_slice-3.result.now c.args.place c.args.item (length h) v w) c.as_slice-2.ensures.value (subst (λ n. Finds c.as_slice-2.result.now c.as_slice-3.result.now c.args.place c.args.item n v w) completing.reached finds)) payable))
