-- Where an object stands over the budget, under a smaller one.
use Rattle.std.proofs.Common.{◌≤◌, ◌+◌, ℕ, List, length, take, arith}
use Rattle.std.proofs.lemmas.List.{get_or-take, length-take-le}
use Rattle.lin_events.specs.declared.events.Event.{Event}
use Rattle.lin_events.specs.declared.calls.Call.{Call}
use Rattle.lin_events.specs.declared.calls.Reply.{Reply}
use Rattle.lin_objects.specs.declared.kinds.Kind.{Kind}
use Rattle.lin_objects.specs.Steps.{Step, start}
use Rattle.lin_order.specs.Configurations.{IsOver}
use Rattle.lin_engines.specs.declared.ends.End.TheVariants.{Over}
use Rattle.lin_engines.specs.Ends.{IsEndOf}

IsOver-smaller : {S : Type 0} (begin : S) (step : S → Call → S → Reply → Type 0) (h : List Event) (budget smaller : ℕ) → smaller ≤ budget → IsOver begin step h budget → IsOver begin step h smaller
IsOver-smaller begin step h budget smaller less is =
    let few : smaller + 1 ≤ length is.found = omega (arith, is.many, less) in
    let long = length-take-le (smaller + 1) is.found few in
    record {
      found = take (smaller + 1) is.found;
      many = long;
      configurations = λ k d within. rw (get_or-take (smaller + 1) is.found k d (omega (arith, within, long))) (is.configurations k d (omega (arith, within, long, few)));
      distinct = λ i j d before within.
          rw (get_or-take (smaller + 1) is.found i d (omega (arith, before, within, long))) (rw (get_or-take (smaller + 1) is.found j d (omega (arith, within, long))) (is.distinct i j d before (omega (arith, within, long, few))));
    }

pub IsEndOf-smaller : (kind : Kind) (budget smaller : ℕ) (h : List Event) (at : ℕ) → smaller ≤ budget → IsEndOf kind budget h (Over at) → IsEndOf kind smaller h (Over at)
IsEndOf-smaller kind budget smaller h at less is = record { inside = is.inside; over = IsOver-smaller (start kind) (Step kind) (take (at + 1) h) budget smaller less is.over }
