-- Histories that begin alike.
use Rattle.std.proofs.Common.{◌≡◌, ◌≤◌, ◌<◌, ◌+◌, ◌∙◌, ℕ, List, length, take, ap, sym, subst, arith}
use Rattle.std.proofs.lemmas.List.{length-take, take-take}
use Rattle.lin_events.specs.declared.events.Event.{Event}
use Rattle.lin_objects.specs.declared.kinds.Kind.{Kind}
use Rattle.lin_order.specs.Linearizable.{IsDeadAt, IsLinearizableAs}

-- beginnings of lists that agree up to a place agree before it
pub take_alike : {A : Type 0} (m n : ℕ) (xs ys : List A) → m ≤ n → take n xs ≡ take n ys → take m xs ≡ take m ys
take_alike m n xs ys below same = sym (take-take m n xs below) ∙ ap (λ l. take m l) same ∙ take-take m n ys below

-- a place within what begins alike is one of both
pub longer : (h edited : List Event) (place n : ℕ) → n ≤ place → n ≤ length h → take place h ≡ take place edited → n ≤ length edited
longer h edited place n below inside same = let long = ap length same in omega (arith, length-take place h, length-take place edited, long)

-- what is dead ahead of the place is dead in both
pub dead_alike : (kind : Kind) (h edited : List Event) (place at : ℕ) → at < place → take place h ≡ take place edited → IsDeadAt kind h at → IsDeadAt kind edited at
dead_alike kind h edited place at below same dead = record {
  before = subst (IsLinearizableAs kind) (take_alike at place h edited (omega arith) same) dead.before;
  failing = λ lin. dead.failing (subst (IsLinearizableAs kind) (sym (take_alike (at + 1) place h edited (omega arith) same)) lin);
}
