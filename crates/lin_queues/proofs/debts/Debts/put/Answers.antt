use Rattle.std.proofs.Common.{length, sym, ◌∙◌, subst, refl, Contains, ◌≡◌, ◌-◌, ◌++◌, ◌∷◌, [], List, arith}
use Rattle.lin_events.specs.declared.calls.Call.TheVariants.{Enqueue}
use Rattle.lin_order.specs.ConfigurationLaws.{with_event}
use Rattle.lin_queues.specs.Engines.{AreDebtsOf}
use Rattle.lin_queues.specs.Gathering.{HaveReturned, IsCovered, IsReturning}
use Rattle.lin_queues.specs.Members.{AreEnqueues}
use Rattle.lin_queues.specs.Opens.{AreOpen}
use Rattle.lin_queues.proofs.Lists.{ok_is}
use Rattle.lin_queues.proofs.Going.{as_before, goes_on, has_failed, is_returning, more_enqueues, more_returned}
use Rattle.lin_queues.proofs.Listing.{one_longer}
use Rattle.std.proofs.lemmas.List.{length-append}
use Rattle.lin_events.specs.declared.calls.Reply.TheVariants.{Done}
use Rattle.lin_queues.specs.declared.elements.Element.{Element}
use Rattle.lin_queues.specs.Members.{view_of}
use Rattle.lin_queues.specs.Reaching.{PutsIn, Reached, put}
use Rattle.lin_queues.proofs.Gaining.{made_next, too_many}
use Rattle.lin_queues.proofs.debts.Debts.put.Goals as goal

last_index : (xs : List Element) (x : Element) → length (xs ++ x ∷ []) - 1 ≡ length xs
last_index xs x = let e = length-append xs (x ∷ []) in omega (arith, e)

pub returns-clause-next : goal.returns-clause-next
returns-clause-next c = λ is functions h event completing.
    let self = c.args.self.now in
    let call = Enqueue c.args.item in
    let pushed = c.in_ok-push.ensures.all.1 in
    let enqueues = more_enqueues self functions h event c.args.place call Done completing c.ends_are_unique.ensures c.well_formed_is_alternating.ensures
    (record { place = c.args.place; returned = self.reached; item = c.args.item; earlier = c.in_ok-push.ensures.all.0 }) refl refl completing.reached in
    let returned = more_returned self functions h event c.args.place call Done completing c.ends_are_unique.ensures c.well_formed_is_alternating.ensures
    (record { place = c.args.place; returned = self.reached; item = c.args.item; earlier = c.in_ok-push.ensures.all.0 }) refl refl completing.reached in
    let all = subst (AreEnqueues (with_event h event)) (sym pushed) enqueues in
    let back = subst (HaveReturned (with_event h event)) (sym pushed) returned in
    let next = c.go_on.ensures.next (ok_is is) in
    subst (λ d. AreDebtsOf d (with_event h event)) (sym next.1)
    (goes_on _ (with_event h event) c.in_ok-next.next.is_full next.0 next.2 (one_longer h event self.reached completing.reached)
    (record { chained = c.in_ok-push.ensures.chained completing.elements.chained; enqueues = all; returned = back }) completing.opened
    (λ whole order is_whole.
    let was = as_before self functions h event c.args.place call Done completing c.debts_at_start.ensures.beginning whole order is_whole in
    let returning = is_returning self functions h event c.args.place call Done completing whole order c.push.new.self.all.items all back is_whole in
    subst (λ l. IsCovered whole order (length (with_event h event)) l c.in_ok-next.next.members.items c.in_ok-next.next.is_full) c.as_slice-2.ensures.value
    (c.in_ok-next.ensures.told functions h event Done whole order self.elements.all.items (record { place = c.args.place; returned = self.reached; item = c.args.item; earlier = c.in_ok-push.ensures.all.0 })
    (c.as_slice-2.ensures.value ∙ pushed) refl completing.reached refl
    (subst (AreOpen (with_event h event)) (sym c.as_slice-3.ensures.value) completing.opened)
    (subst (IsReturning functions h event c.args.place (Enqueue c.args.item) Done whole order) (sym c.as_slice-2.ensures.value) returning)
    (was.0, subst (λ l. Contains l was.0) (sym c.as_slice.ensures.value) was.1, was.2)))
    (λ m there. subst (λ l. Reached (with_event h event) l (view_of m)) (sym pushed) ((made_next c.as_slice.result.now c.as_slice-3.result.now c.in_ok-next.next (PutsIn c.as_slice-2.result.now c.args.place (length c.as_slice-2.result.now - 1) self.reached) h (with_event h event) self.elements.all.items (self.elements.all.items ++ (record { place = c.args.place; returned = self.reached; item = c.args.item; earlier = c.in_ok-push.ensures.all.0 }) ∷ []) c.in_ok-next.ensures.gathered
    (subst (AreOpen (with_event h event)) (sym c.as_slice-3.ensures.value) completing.opened) (λ m there. completing.made m (subst (λ l. Contains l m) c.as_slice.ensures.value there))
    (λ v w reached puts payable. put event completing.name completing.completes.key (record { place = c.args.place; returned = self.reached; item = c.args.item; earlier = c.in_ok-push.ensures.all.0 }) completing.body completing.completes.is_open completing.reached reached
    (subst (λ n. PutsIn (self.elements.all.items ++ (record { place = c.args.place; returned = self.reached; item = c.args.item; earlier = c.in_ok-push.ensures.all.0 }) ∷ []) c.args.place n (length h) v w) (last_index self.elements.all.items (record { place = c.args.place; returned = self.reached; item = c.args.item; earlier = c.in_ok-push.ensures.all.0 }))
    (subst (λ l. PutsIn l c.args.place (length l - 1) (length h) v w) (c.as_slice-2.ensures.value ∙ pushed) (subst (λ n. PutsIn c.as_slice-2.result.now c.args.place (length c.as_slice-2.result.now - 1) n v w) completing.reached puts))) payable)) m there)))

pub returns-clause-fails : goal.returns-clause-fails
returns-clause-fails c = λ is functions h event completing.
    let self = c.args.self.now in
    let call = Enqueue c.args.item in
    let pushed = c.in_ok-push.ensures.all.1 in
    let enqueues = more_enqueues self functions h event c.args.place call Done completing c.ends_are_unique.ensures c.well_formed_is_alternating.ensures
    (record { place = c.args.place; returned = self.reached; item = c.args.item; earlier = c.in_ok-push.ensures.all.0 }) refl refl completing.reached in
    let returned = more_returned self functions h event c.args.place call Done completing c.ends_are_unique.ensures c.well_formed_is_alternating.ensures
    (record { place = c.args.place; returned = self.reached; item = c.args.item; earlier = c.in_ok-push.ensures.all.0 }) refl refl completing.reached in
    let all = subst (AreEnqueues (with_event h event)) (sym pushed) enqueues in
    let back = subst (HaveReturned (with_event h event)) (sym pushed) returned in
    let none = c.go_on.ensures.fails (ok_is is) in
    has_failed c.no_debts.ensures (with_event h event) c.push.new.self.all.items c.in_ok-next.next.members.items c.in_ok-next.next.is_full none.0 none.1
    (λ whole order is_whole.
    let was = as_before self functions h event c.args.place call Done completing c.debts_at_start.ensures.beginning whole order is_whole in
    let returning = is_returning self functions h event c.args.place call Done completing whole order c.push.new.self.all.items all back is_whole in
    subst (λ l. IsCovered whole order (length (with_event h event)) l c.in_ok-next.next.members.items c.in_ok-next.next.is_full) c.as_slice-2.ensures.value
    (c.in_ok-next.ensures.told functions h event Done whole order self.elements.all.items (record { place = c.args.place; returned = self.reached; item = c.args.item; earlier = c.in_ok-push.ensures.all.0 })
    (c.as_slice-2.ensures.value ∙ pushed) refl completing.reached refl
    (subst (AreOpen (with_event h event)) (sym c.as_slice-3.ensures.value) completing.opened)
    (subst (IsReturning functions h event c.args.place (Enqueue c.args.item) Done whole order) (sym c.as_slice-2.ensures.value) returning)
    (was.0, subst (λ l. Contains l was.0) (sym c.as_slice.ensures.value) was.1, was.2)))

pub returns-clause-gives_up : goal.returns-clause-gives_up
returns-clause-gives_up c = λ is functions h event completing.
    let self = c.args.self.now in
    let pushed = c.in_ok-push.ensures.all.1 in
    too_many c.as_slice.result.now c.as_slice-3.result.now c.in_ok-next.next (PutsIn c.as_slice-2.result.now c.args.place (length c.as_slice-2.result.now - 1) self.reached) (with_event h event) (self.elements.all.items ++ (record { place = c.args.place; returned = self.reached; item = c.args.item; earlier = c.in_ok-push.ensures.all.0 }) ∷ []) c.in_ok-next.ensures.gathered (c.go_on.ensures.gives_up (ok_is is))
    (made_next c.as_slice.result.now c.as_slice-3.result.now c.in_ok-next.next (PutsIn c.as_slice-2.result.now c.args.place (length c.as_slice-2.result.now - 1) self.reached) h (with_event h event) self.elements.all.items (self.elements.all.items ++ (record { place = c.args.place; returned = self.reached; item = c.args.item; earlier = c.in_ok-push.ensures.all.0 }) ∷ []) c.in_ok-next.ensures.gathered
    (subst (AreOpen (with_event h event)) (sym c.as_slice-3.ensures.value) completing.opened) (λ m there. completing.made m (subst (λ l. Contains l m) c.as_slice.ensures.value there))
    (λ v w reached puts payable. put event completing.name completing.completes.key (record { place = c.args.place; returned = self.reached; item = c.args.item; earlier = c.in_ok-push.ensures.all.0 }) completing.body completing.completes.is_open completing.reached reached
    (subst (λ n. PutsIn (self.elements.all.items ++ (record { place = c.args.place; returned = self.reached; item = c.args.item; earlier = c.in_ok-push.ensures.all.0 }) ∷ []) c.args.place n (length h) v w) (last_index self.elements.all.items (record { place = c.args.place; returned = self.reached; item = c.args.item; earlier = c.in_ok-push.ensures.all.0 }))
    (subst (λ l. PutsIn l c.args.place (length l - 1) (length h) v w) (c.as_slice-2.ensures.value ∙ pushed) (subst (λ n. PutsIn c.as_slice-2.result.now c.args.place (length c.as_slice-2.result.now - 1) n v w) completing.reached puts))) payable))
