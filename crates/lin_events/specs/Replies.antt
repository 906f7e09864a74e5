-- Values, replies and calls that compare alike by `==` are the same.
use Rattle.std.specs.Prelude.{◌≡◌, true, Decides}
use Rattle.std.proofs.Common.{refl, sym, ap, ◌∙◌, true≢false}
use Rattle.std.proofs.lemmas.Bool.{and_parts}
use Rattle.lin_events.specs.declared.calls.Val.{Val}
use Rattle.lin_events.specs.declared.calls.Val.TheVariants.{Nil, Item as Held}
use Rattle.lin_events.specs.declared.calls.Call.{Call}
use Rattle.lin_events.specs.declared.calls.Call.TheVariants as call
use Rattle.lin_events.specs.declared.calls.Reply.{Reply}
use Rattle.lin_events.specs.declared.calls.Reply.TheVariants.{Done, Value, Members}
use Rattle.lin_events.specs.Sameness.{items_Decides, item_same, item_itself}
use Rattle.lin_events.specs.contracts.calls.ValPartialEq.TheImpl as ValImpl
use Rattle.lin_events.specs.contracts.calls.ReplyPartialEq.TheImpl as ReplyImpl
use Rattle.lin_events.specs.contracts.calls.CallPartialEq.TheImpl as CallImpl

pub val_same : (x y : Val) → ValImpl.ghosts.eq x y ≡ true → x ≡ y
val_same Nil Nil h = refl
val_same (Held a) (Held b) h = ap Held (item_same a b h)
val_same Nil (Held b) h = absurd (true≢false (sym h))
val_same (Held a) Nil h = absurd (true≢false (sym h))

pub val_itself : (x : Val) → ValImpl.ghosts.eq x x ≡ true
val_itself Nil = refl
val_itself (Held a) = item_itself a

-- replies that compare alike are one
pub reply_same : (x y : Reply) → ReplyImpl.ghosts.eq x y ≡ true → x ≡ y
reply_same Done Done h = refl
reply_same (Value a) (Value b) h = ap Value (val_same a b h)
reply_same (Members a) (Members b) h = ap Members ((items_Decides a b).0 h)
reply_same Done (Value b) h = absurd (true≢false (sym h))
reply_same Done (Members b) h = absurd (true≢false (sym h))
reply_same (Value a) Done h = absurd (true≢false (sym h))
reply_same (Value a) (Members b) h = absurd (true≢false (sym h))
reply_same (Members a) Done h = absurd (true≢false (sym h))
reply_same (Members a) (Value b) h = absurd (true≢false (sym h))

pub reply_itself : (x : Reply) → ReplyImpl.ghosts.eq x x ≡ true
reply_itself Done = refl
reply_itself (Value a) = val_itself a
reply_itself (Members a) = (items_Decides a a).1 refl

pub reply_Decides : (x y : Reply) → Decides (ReplyImpl.ghosts.eq x y) (x ≡ y)
reply_Decides x y = (reply_same x y, λ e. ap (λ z. ReplyImpl.ghosts.eq x z) (sym e) ∙ reply_itself x)

-- calls that compare alike are one
pub call_same : (x y : Call) → CallImpl.ghosts.eq x y ≡ true → x ≡ y
call_same call.Read call.Read h = refl
call_same (call.Write a) (call.Write b) h = ap call.Write (val_same a b h)
call_same (call.Cas a b) (call.Cas c d) h =
    let both = and_parts _ _ h in
    let first = val_same a c both.0 in
    let second = val_same b d both.1 in
    cc
call_same (call.Enqueue a) (call.Enqueue b) h = ap call.Enqueue (item_same a b h)
call_same call.Dequeue call.Dequeue h = refl
call_same (call.Add a) (call.Add b) h = ap call.Add (item_same a b h)
call_same call.Acquire call.Acquire h = refl
call_same call.Release call.Release h = refl
call_same x y h = absurd (true≢false (sym h))
