use Rattle.std.proofs.Common.{subst, sym, ap, ◌∙◌, ◌++◌, ◌∷◌, [], pos, get_or, length}
use Rattle.std.proofs.lemmas.Option.{get_or_from_slice_get}
use Rattle.lin_events.specs.declared.items.Item.TheVariants.{Int}
use Rattle.lin_queues.specs.declared.elements.Element.{Element}
use Rattle.lin_queues.specs.Members.{AreOwed, Told, View, view_of}
use Rattle.lin_queues.proofs.Lists.{on_ok}
use Rattle.lin_queues.specs.Gains.{Gains}
use Rattle.lin_queues.specs.Reaching.{Sinks}
use Rattle.lin_queues.proofs.gathered.Gathered.take_one.Goals as goal

pub returns-clause-told : goal.returns-clause-told
returns-clause-told c =
    let same = sym (ap (λ l. record (view_of c.in_ok-next.next) { gone = l }) c.in_ok-push.ensures.items ∙ ap (λ (v : View). record v { gone = v.gone ++ c.args.at ∷ [] }) c.in_ok-next.ensures) in
    on_ok c.push_sunk.result (λ told' h whole order item is_whole paying enqueues may.
    let here = ap (λ (x : Element). x.place) (sym (get_or_from_slice_get c.args.elements.now c.args.at may.element (record { place = 0; returned = 0; item = Int (pos 0); earlier = 0 }) may.stands)) in
    told' h whole order is_whole paying enqueues (subst (Told whole order (length h) c.args.elements.now) same may.told)
    (subst (λ v. AreOwed whole order (length h) c.args.elements.now v (get_or c.args.elements.now c.args.at (record { place = 0; returned = 0; item = Int (pos 0); earlier = 0 })).place c.args.time) same (subst (λ by. AreOwed whole order (length h) c.args.elements.now (record (view_of c.args.member.now) { gone = c.args.member.now.gone.items ++ c.args.at ∷ [] }) by c.args.time) here may.ahead))) c.push_sunk.ensures.told

pub returns-clause-gains : goal.returns-clause-gains
returns-clause-gains c =
    let same = sym (ap (λ l. record (view_of c.in_ok-next.next) { gone = l }) c.in_ok-push.ensures.items ∙ ap (λ (v : View). record v { gone = v.gone ++ c.args.at ∷ [] }) c.in_ok-next.ensures) in
    on_ok c.push_sunk.result (λ gains element stands.
    let here = ap (λ (x : Element). x.place) (get_or_from_slice_get c.args.elements.now c.args.at element (record { place = 0; returned = 0; item = Int (pos 0); earlier = 0 }) stands) in
    subst (λ by. Gains c.args.self.now c.push_sunk.new.self (Sinks c.args.elements.now by c.args.time (record (view_of c.args.member.now) { gone = c.args.member.now.gone.items ++ c.args.at ∷ [] }))) here
    (subst (λ (v : View). Gains c.args.self.now c.push_sunk.new.self (Sinks c.args.elements.now (get_or c.args.elements.now c.args.at (record { place = 0; returned = 0; item = Int (pos 0); earlier = 0 })).place c.args.time v)) (sym same) gains)) c.push_sunk.ensures.gains
