-- Events that compare alike by `==` are the same.
use Rattle.std.specs.Prelude.{◌≡◌, true}
use Rattle.std.proofs.Common.{refl, sym, ap, ◌∙◌, true≢false}
use Rattle.std.proofs.lemmas.Bool.{and_from, and_parts}
use Rattle.std.proofs.lemmas.Bool.Decides.{Decides-eqb}
use Rattle.lin_events.specs.Sameness.{Decides-item_eq, item_itself}
use Rattle.lin_events.specs.declared.calls.Call.{Call}
use Rattle.lin_events.specs.declared.calls.Call.TheVariants as call
use Rattle.lin_events.specs.declared.calls.Name.{Name}
use Rattle.lin_events.specs.declared.calls.Name.TheVariants as name
use Rattle.lin_events.specs.declared.events.Body.{Body}
use Rattle.lin_events.specs.declared.events.Body.TheVariants.{Invoke, Ok, Fail, Info}
use Rattle.lin_events.specs.declared.events.Event.{Event}
use Rattle.lin_events.specs.Replies.{call_same, reply_itself, reply_same, val_itself}
use Rattle.lin_events.specs.contracts.calls.NamePartialEq.TheImpl as NameImpl
use Rattle.lin_events.specs.contracts.calls.CallPartialEq.TheImpl as CallImpl
use Rattle.lin_events.specs.contracts.events.BodyPartialEq.TheImpl as BodyImpl
use Rattle.lin_events.specs.contracts.events.EventPartialEq.TheImpl as EventImpl

name_same : (x y : Name) → NameImpl.ghosts.eq x y ≡ true → x ≡ y
name_same name.Read name.Read h = refl
name_same name.Write name.Write h = refl
name_same name.Cas name.Cas h = refl
name_same name.Enqueue name.Enqueue h = refl
name_same name.Dequeue name.Dequeue h = refl
name_same name.Add name.Add h = refl
name_same name.Acquire name.Acquire h = refl
name_same name.Release name.Release h = refl
name_same x y h = absurd (true≢false (sym h))

body_same : (x y : Body) → BodyImpl.ghosts.eq x y ≡ true → x ≡ y
body_same (Invoke a) (Invoke b) h = ap Invoke (call_same a b h)
body_same (Ok a r) (Ok b q) h =
    let both = and_parts _ _ h in
    let first = name_same a b both.0 in
    let second = reply_same r q both.1 in
    cc
body_same (Fail a) (Fail b) h = ap Fail (name_same a b h)
body_same (Info a) (Info b) h = ap Info (name_same a b h)
body_same x y h = absurd (true≢false (sym h))

-- events that compare alike are one
pub event_same : (x y : Event) → EventImpl.ghosts.eq x y ≡ true → x ≡ y
event_same x y h =
    let first = and_parts _ _ h in
    let second = and_parts _ _ first.1 in
    let process = (Decides-eqb x.process y.process).0 first.0 in
    let key = (Decides-item_eq x.key y.key).0 second.0 in
    let body = body_same x.body y.body second.1 in
    λ i. record { process = process i; key = key i; body = body i }

-- and an event compares alike with itself
name_itself : (x : Name) → NameImpl.ghosts.eq x x ≡ true
name_itself name.Read = refl
name_itself name.Write = refl
name_itself name.Cas = refl
name_itself name.Enqueue = refl
name_itself name.Dequeue = refl
name_itself name.Add = refl
name_itself name.Acquire = refl
name_itself name.Release = refl

call_itself : (x : Call) → CallImpl.ghosts.eq x x ≡ true
call_itself call.Read = refl
call_itself (call.Write a) = val_itself a
call_itself (call.Cas a b) = and_from _ _ (val_itself a) (val_itself b)
call_itself (call.Enqueue a) = item_itself a
call_itself call.Dequeue = refl
call_itself (call.Add a) = item_itself a
call_itself call.Acquire = refl
call_itself call.Release = refl

body_itself : (x : Body) → BodyImpl.ghosts.eq x x ≡ true
body_itself (Invoke a) = call_itself a
body_itself (Ok a r) = and_from _ _ (name_itself a) (reply_itself r)
body_itself (Fail a) = name_itself a
body_itself (Info a) = name_itself a

event_itself : (x : Event) → EventImpl.ghosts.eq x x ≡ true
event_itself x = and_from _ _ ((Decides-eqb x.process x.process).1 refl) (and_from _ _ ((Decides-item_eq x.key x.key).1 refl) (body_itself x.body))

pub event_equal : (x y : Event) → x ≡ y → EventImpl.ghosts.eq x y ≡ true
event_equal x y same = ap (EventImpl.ghosts.eq x) (sym same) ∙ event_itself x
