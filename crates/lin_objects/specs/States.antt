-- States that compare alike by `==` are the same.
use Rattle.std.specs.Prelude.{◌≡◌, true, false, Decides}
use Rattle.std.proofs.Common.{refl, sym, ap, ◌∙◌, true≢false}
use Rattle.lin_events.specs.Sameness.{items_Decides}
use Rattle.lin_events.specs.Replies.{val_same, val_itself}
use Rattle.lin_objects.specs.declared.states.State.{State}
use Rattle.lin_objects.specs.declared.states.State.TheVariants.{Value, Queue, Members, Held, Bag}
use Rattle.lin_objects.specs.contracts.states.StatePartialEq.TheImpl as StateImpl

-- states that compare alike are one
pub state_same : (x y : State) → StateImpl.ghosts.eq x y ≡ true → x ≡ y
state_same (Value a) (Value b) h = ap Value (val_same a b h)
state_same (Queue a) (Queue b) h = ap Queue ((items_Decides a b).0 h)
state_same (Members a) (Members b) h = ap Members ((items_Decides a b).0 h)
state_same (Bag a) (Bag b) h = ap Bag ((items_Decides a b).0 h)
state_same (Held true) (Held true) h = refl
state_same (Held false) (Held false) h = refl
state_same (Held true) (Held false) h = absurd (true≢false (sym h))
state_same (Held false) (Held true) h = absurd (true≢false (sym h))
state_same (Value a) (Queue b) h = absurd (true≢false (sym h))
state_same (Value a) (Members b) h = absurd (true≢false (sym h))
state_same (Value a) (Held b) h = absurd (true≢false (sym h))
state_same (Queue a) (Value b) h = absurd (true≢false (sym h))
state_same (Queue a) (Members b) h = absurd (true≢false (sym h))
state_same (Queue a) (Held b) h = absurd (true≢false (sym h))
state_same (Members a) (Value b) h = absurd (true≢false (sym h))
state_same (Members a) (Queue b) h = absurd (true≢false (sym h))
state_same (Members a) (Held b) h = absurd (true≢false (sym h))
state_same (Held a) (Value b) h = absurd (true≢false (sym h))
state_same (Held a) (Queue b) h = absurd (true≢false (sym h))
state_same (Held a) (Members b) h = absurd (true≢false (sym h))
state_same (Bag a) (Value b) h = absurd (true≢false (sym h))
state_same (Bag a) (Queue b) h = absurd (true≢false (sym h))
state_same (Bag a) (Members b) h = absurd (true≢false (sym h))
state_same (Bag a) (Held b) h = absurd (true≢false (sym h))
state_same (Value a) (Bag b) h = absurd (true≢false (sym h))
state_same (Queue a) (Bag b) h = absurd (true≢false (sym h))
state_same (Members a) (Bag b) h = absurd (true≢false (sym h))
state_same (Held a) (Bag b) h = absurd (true≢false (sym h))

pub state_itself : (x : State) → StateImpl.ghosts.eq x x ≡ true
state_itself (Value a) = val_itself a
state_itself (Queue a) = (items_Decides a a).1 refl
state_itself (Members a) = (items_Decides a a).1 refl
state_itself (Bag a) = (items_Decides a a).1 refl
state_itself (Held true) = refl
state_itself (Held false) = refl

pub state_Decides : (x y : State) → Decides (StateImpl.ghosts.eq x y) (x ≡ y)
state_Decides x y = (state_same x y, λ e. ap (λ z. StateImpl.ghosts.eq x z) (sym e) ∙ state_itself x)
