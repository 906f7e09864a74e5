use Rattle.std.proofs.Common.{◌≡◌, ◌≤◌, ◌-◌, ℕ, length}
use Rattle.lin_objects.specs.Kinds.{kind_of}
use Rattle.lin_session.specs.Objects.{AreRight, split_in}
use Rattle.lin_session.specs.inner.Objects.{marks_in}
use Rattle.lin_session.specs.Known.{AreSameMarks}
use Rattle.lin_session.proofs.kept.Objects.split.Given as goal

abbrev pub invariant-loop-self : goal.invariant-loop-self
invariant-loop-self l = record {
  right : (budget : ℕ) → AreRight l.initial.self (kind_of l.kinds) budget l.events → AreRight l.self (kind_of l.kinds) budget l.events;
  within : split_in l.self ≤ length l.events;
  same : split_in l.initial.self ≡ length l.events → l.self ≡ l.initial.self;
  marks : AreSameMarks (marks_in l.initial.self) (marks_in l.self);
  apart : split_in l.initial.self ≡ length l.events → split_in l.self ≡ length l.events;
}

abbrev pub decreases-loop-self : goal.decreases-loop-self
decreases-loop-self l = length l.events - l.self.split
