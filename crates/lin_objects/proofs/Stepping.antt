-- The laws of steps, by the lines of their table.
use Rattle.std.proofs.Common.{◌≡◌, refl, sym, ap, ◌∙◌, true, false, [], ◌∷◌}
use Rattle.lin_events.specs.declared.items.Item.{Item}
use Rattle.lin_events.specs.declared.calls.Call.TheVariants.{Read, Write, Cas, Enqueue, Dequeue, Add, Acquire, Release}
use Rattle.lin_objects.specs.declared.kinds.Kind.TheVariants.{Register, CasRegister, Fifo, Set, Mutex, Bag}
use Rattle.lin_objects.specs.declared.states.State.TheVariants.{Value, Queue, Members, Held as Locked}
use Rattle.lin_objects.specs.declared.states.State.TheVariants.{Bag as Bagged}
use Rattle.lin_objects.specs.Bags.{without_one}
use Rattle.lin_events.specs.declared.calls.Val.TheVariants.{Item as Held}
use Rattle.lin_events.specs.declared.calls.Reply.TheVariants as Replied
use Rattle.lin_objects.specs.Laws.{StepsAreAllowed, RepliesDecide}

pub steps_are_allowed : StepsAreAllowed
steps_are_allowed Register (Value v) Read next reply h = refl
steps_are_allowed Register (Value v) (Write w) next reply h = refl
steps_are_allowed CasRegister (Value v) Read next reply h = refl
steps_are_allowed CasRegister (Value v) (Write w) next reply h = refl
steps_are_allowed CasRegister (Value v) (Cas from to) next reply h = refl
steps_are_allowed Fifo (Queue q) (Enqueue x) next reply h = refl
steps_are_allowed Fifo (Queue q) Dequeue next reply h = refl
steps_are_allowed Set (Members s) (Add x) next reply h = refl
steps_are_allowed Set (Members s) Read next reply h = refl
steps_are_allowed Mutex (Locked false) Acquire next reply h = refl
steps_are_allowed Mutex (Locked true) Release next reply h = refl
steps_are_allowed Bag (Bagged q) (Enqueue x) next reply h = refl
steps_are_allowed Bag (Bagged q) Dequeue next reply h = refl
steps_are_allowed _ _ _ next reply h = absurd h

-- replies with the same item are of one item
same_item : {x y : Item} → Replied.Value (Held x) ≡ Replied.Value (Held y) → x ≡ y
same_item e = cc

pub replies_decide : RepliesDecide
replies_decide Register (Value v) Read next other reply h k = h.0 ∙ sym k.0
replies_decide Register (Value v) (Write w) next other reply h k = h.0 ∙ sym k.0
replies_decide CasRegister (Value v) Read next other reply h k = h.0 ∙ sym k.0
replies_decide CasRegister (Value v) (Write w) next other reply h k = h.0 ∙ sym k.0
replies_decide CasRegister (Value v) (Cas from to) next other reply h k = h.1 ∙ sym k.1
replies_decide Fifo (Queue q) (Enqueue x) next other reply h k = h.0 ∙ sym k.0
replies_decide Fifo (Queue (x ∷ q)) Dequeue next other reply h k = h.0 ∙ sym k.0
replies_decide Fifo (Queue []) Dequeue next other reply h k = h.0 ∙ sym k.0
replies_decide Set (Members s) (Add x) next other reply h k = h.0 ∙ sym k.0
replies_decide Set (Members s) Read next other reply h k = h.0 ∙ sym k.0
replies_decide Mutex (Locked false) Acquire next other reply h k = h.0 ∙ sym k.0
replies_decide Mutex (Locked true) Release next other reply h k = h.0 ∙ sym k.0
replies_decide Bag (Bagged q) (Enqueue x) next other reply h k = h.0 ∙ sym k.0
replies_decide Bag (Bagged []) Dequeue next other reply h k = h.0 ∙ sym k.0
replies_decide Bag (Bagged (x ∷ q)) Dequeue next other reply h k = h.2 ∙ ap (λ y. Bagged (without_one y (x ∷ q))) (same_item (sym h.3 ∙ k.3)) ∙ sym k.2
replies_decide _ _ _ next other reply h k = absurd h
