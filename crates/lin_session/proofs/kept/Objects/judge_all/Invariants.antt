use Rattle.std.proofs.Common.{◌≡◌, ◌<◌, ◌≤◌, ◌+◌, ◌-◌, ℕ, None, Some, length, take, slice_get}
use Rattle.std.specs.List.{sum_by}
use Rattle.lin_order.specs.Parts.{part}
use Rattle.lin_events.specs.declared.items.Item.{Item}
use Rattle.lin_events.specs.WellFormed.{IsWellFormed}
use Rattle.lin_objects.specs.declared.kinds.Kind.{Kind}
use Rattle.lin_objects.specs.Kinds.{functions_of}
use Rattle.lin_engines.specs.declared.ends.End.TheVariants.{Alive}
use Rattle.lin_answers.specs.declared.answers.Scope.TheVariants.{Whole}
use Rattle.lin_answers.specs.declared.answers.Verdict.TheVariants.{No, Undecided}
use Rattle.lin_session.specs.inner.Judgements.{AreFound}
use Rattle.lin_session.specs.inner.Objects.{marks_in}
use Rattle.lin_session.specs.Marks.{AreCarriedOn, AreExact, IsKnown, IsMarkedAs, IsNothingDue, IsToldOf}
use Rattle.lin_session.specs.Objects.{AreRight, split_in}
use Rattle.lin_session.specs.Work.{IsSpentIn}
use Rattle.lin_session.proofs.kept.Objects.judge_all.Given as goal

abbrev pub invariant-loop-i : goal.invariant-loop-i
invariant-loop-i l = record {
  keys : l.self.keys ≡ l.initial.self.keys;
  scans : l.meter.scans ≡ l.initial.meter.scans;
  split : split_in l.self ≡ split_in l.initial.self;
  right : (kinds : Item → Kind) → AreRight l.initial.self kinds l.budget l.events → AreRight l.self kinds l.budget l.events;
  found : (kinds : Item → Kind) → AreRight l.initial.self kinds l.budget l.events → IsWellFormed (functions_of kinds) l.events → AreFound kinds l.budget l.events (take l.i l.initial.self.keys.keys) l.failing l.over;
  carried : AreCarriedOn l.events Whole (marks_in l.initial.self) (marks_in l.self);
  spent : IsSpentIn l.events Whole (marks_in l.initial.self) (marks_in l.self) l.initial.meter.steps l.meter.steps;
  known : (j : ℕ) (key : Item) → j < l.i → slice_get l.initial.self.keys.keys j ≡ Some key → IsKnown l.events (marks_in l.self) key;
  alive : l.failing ≡ None → l.over ≡ None → (j : ℕ) (key : Item) → j < l.i → slice_get l.initial.self.keys.keys j ≡ Some key → IsToldOf l.events (marks_in l.self) key Alive;
  dead : (n : ℕ) → l.failing ≡ Some n → IsMarkedAs l.events Whole (marks_in l.self) (No n);
  over : (at : ℕ) → l.over ≡ Some at → IsMarkedAs l.events Whole (marks_in l.self) (Undecided at);
  decided : (kinds : Item → Kind) → AreRight l.initial.self kinds l.budget l.events → AreExact kinds l.events Whole → 1024 ≤ l.budget → l.over ≡ None;
  behind : (j : ℕ) (key : Item) → l.i ≤ j → slice_get l.initial.self.keys.keys j ≡ Some key → marks_in l.self key ≡ marks_in l.initial.self key;
  exact : (kinds : Item → Kind) → AreRight l.initial.self kinds l.budget l.events → AreExact kinds l.events Whole → 1024 ≤ l.budget
      → l.meter.steps ≤ l.initial.meter.steps + sum_by (λ key. length (part key l.events) - (marks_in l.initial.self key).beside) (take l.i l.initial.self.keys.keys);
  rests : IsNothingDue l.events Whole (marks_in l.initial.self) → l.meter ≡ l.initial.meter;
}
