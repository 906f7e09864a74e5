use Rattle.std.proofs.Common.{◌≡◌, ◌≤◌, ℕ, length, nat_lt, take}
use Rattle.lin_events.specs.declared.items.Item.{Item}
use Rattle.lin_objects.specs.declared.kinds.Kind.{Kind}
use Rattle.lin_order.specs.Parts.{part}
use Rattle.lin_session.specs.Objects.{AreRight, split_in}
use Rattle.lin_session.specs.inner.Objects.{marks_in}
use Rattle.lin_session.specs.Known.{count_before}
use Rattle.lin_session.specs.Leaving.{IsTouched}
use Rattle.lin_session.proofs.session.cut_back.Given as goal

abbrev pub invariant-loop-events : goal.invariant-loop-events
invariant-loop-events l = record {
  within : split_in l.objects ≤ length l.events.items;
  left : l.events.items ≡ take (length l.events.items) l.initial.events.items;
  enough : l.count ≤ length l.initial.events.items → l.count ≤ length l.events.items;
  few : length l.initial.events.items ≤ l.count → l.events.items ≡ l.initial.events.items;
  right : (kinds : Item → Kind) (budget : ℕ) → AreRight l.initial.objects kinds budget l.initial.events.items → AreRight l.objects kinds budget l.events.items;
  marks : (kinds : Item → Kind) (budget : ℕ) → AreRight l.initial.objects kinds budget l.initial.events.items
      → (x : Item) → IsTouched (nat_lt (count_before l.initial.events.items x (length l.events.items)) (length (part x l.initial.events.items))) (count_before l.initial.events.items x (length l.events.items)) (marks_in l.initial.objects x) (marks_in l.objects x);
}

abbrev pub decreases-loop-events : goal.decreases-loop-events
decreases-loop-events l = length l.events.items
