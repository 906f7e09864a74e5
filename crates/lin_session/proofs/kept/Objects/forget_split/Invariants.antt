use Rattle.std.proofs.Common.{◌≡◌, ℕ, ◌≤◌, length, min}
use Rattle.lin_events.specs.declared.items.Item.{Item}
use Rattle.lin_objects.specs.declared.kinds.Kind.{Kind}
use Rattle.lin_session.specs.Objects.{AreRight, split_in}
use Rattle.lin_session.specs.inner.Objects.{marks_in}
use Rattle.lin_session.specs.Known.{AreSameMarks}
use Rattle.lin_session.proofs.kept.Objects.forget_split.Given as goal

abbrev pub invariant-loop-self : goal.invariant-loop-self
invariant-loop-self l = record {
  within : split_in l.self ≤ length l.events;
  least : min l.at (split_in l.self) ≡ min l.at (split_in l.initial.self);
  right : (kinds : Item → Kind) (budget : ℕ) → AreRight l.initial.self kinds budget l.events → AreRight l.self kinds budget l.events;
  marks : AreSameMarks (marks_in l.initial.self) (marks_in l.self);
}

abbrev pub decreases-loop-self : goal.decreases-loop-self
decreases-loop-self l = l.self.split
