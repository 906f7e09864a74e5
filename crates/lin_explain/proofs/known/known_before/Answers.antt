use Rattle.std.proofs.Common.{◌≡◌, ◌-◌, ◌≤◌, ◌++◌, ◌+◌, ◌*◌, ◌∙◌, ap, arith, inl, inr, IfSome, length, map, None, Ok, Option, ℕ, List, refl, Some, subst, sym, take}
use Rattle.std.proofs.lemmas.List.{length-take-le, take-take}
use Rattle.std.proofs.lemmas.Option.{IfSome_then}
use Rattle.lin_events.specs.declared.events.Event.{Event}
use Rattle.lin_events.specs.Meters.{ticked}
use Rattle.lin_objects.specs.declared.kinds.Kind.{Kind}
use Rattle.lin_possibilities.specs.Texts.{was_text}
use Rattle.lin_possibilities.specs.After.{IsAfter, kind_in}
use Rattle.lin_possibilities.specs.declared.possible.Possible.{Possible}
use Rattle.lin_possibilities.specs.lemmas.Ticks.{ticked_rising}
use Rattle.lin_tables.specs.lemmas.Standing.{invoked_within}
use Rattle.lin_tables.specs.Values.{state_text}
use Rattle.lin_explain.specs.inner.Known.{ArePossible}
use Rattle.lin_explain.specs.inner.Laws.{IsLegalHistory}
use Rattle.lin_explain.specs.Possible.{IsPassed, IsWasText}
use Rattle.lin_explain.proofs.Passing.{passed_whole}
use Rattle.lin_explain.proofs.known.known_before.Goals as goal
use Rattle.lin_explain.proofs.known.known_before.Goals.{After-without_last-events}

-- all events but the last one are legal
whole : (c : After-without_last-events) → IsLegalHistory c.args.failure.now.kind c.without_last-events.result.now
whole c = subst (IsLegalHistory c.args.failure.now.kind) (sym c.without_last-events.ensures) c.requires.legal

-- so are those before the quiet place
ahead : (c : After-without_last-events) → IsLegalHistory c.args.failure.now.kind (take c.quiet_before-from.result c.without_last-events.result.now)
ahead c = c.beginnings_are_legal.ensures c.without_last-events.result.now c.quiet_before-from.result (whole c)

-- which are the same in all events
same : (c : After-without_last-events) → take c.quiet_before-from.result c.without_last-events.result.now ≡ take c.quiet_before-from.result c.args.failure.now.stretch.events.now
same c =
    let events = c.args.failure.now.stretch.events.now in
    let from = c.quiet_before-from.result in
    let within = invoked_within events from c.quiet_before-from.ensures.quiet.begins in
    ap (take from) c.without_last-events.ensures ∙ take-take from (length events - 1) events (omega (arith, within))

found_possible : (kind : Kind) (h : List Event) (budget : ℕ) (found : Option Possible) → IfSome found (λ possible. IsAfter possible kind h) → (found ≡ None → IsPassed kind h budget) → ArePossible kind h budget found
found_possible kind h budget None after over = over refl
found_possible kind h budget (Some possible) after over = after

pub after-requires-clause-legal : goal.after-requires-clause-legal
after-requires-clause-legal c = (ahead (goal.at.after-requires-clause-legal c).After-without_last-events).legal

pub after-requires-clause-well_formed : goal.after-requires-clause-well_formed
after-requires-clause-well_formed c = (ahead (goal.at.after-requires-clause-well_formed c).After-without_last-events).well_formed

pub go_on-requires-clause-within : goal.go_on-requires-clause-within
go_on-requires-clause-within c =
    let events = c.args.failure.now.stretch.events.now in
    let from = c.quiet_before-from.result in
    let within = invoked_within events from c.quiet_before-from.ensures.quiet.begins in
    let size = length-take-le (length events - 1) events (omega arith) in
    subst (λ l. from ≤ length l) (sym c.without_last-events.ensures) (omega (arith, within, size))

pub go_on-requires-clause-well_formed : goal.go_on-requires-clause-well_formed
go_on-requires-clause-well_formed c = (whole (goal.at.go_on-requires-clause-well_formed c).After-without_last-events).well_formed

pub after-requires-in-None-clause-well_formed : goal.after-requires-in-None-clause-well_formed
after-requires-in-None-clause-well_formed c = (whole (goal.at.after-requires-in-None-clause-well_formed c).After-without_last-events).well_formed

pub returns-in_ok-possible-in-Some-clause-quiet : goal.returns-in_ok-possible-in-Some-clause-quiet
returns-in_ok-possible-in-Some-clause-quiet c =
    let failure = c.args.failure.now in
    let names = failure.stretch.names.now in
    let events = c.without_last-events.result.now in
    let from = c.quiet_before-from.result in
    let step = (goal.at.returns-in_ok-possible-in-Some-clause-quiet c).After-without_last-events in
    let after = subst (λ o. IfSome o (λ possible. IsAfter possible failure.kind (take from events))) c.in-Some.is c.in_ok-first.ensures.after in
    let begun = ahead step in
    let told = c.in_ok-put_was-in-Some.ensures begun.well_formed.0 (take from events) begun.well_formed.1 after in
    let text = was_text failure.kind (map (state_text names) told.0) in
    record {
      last = c.quiet_before-from.ensures;
      is_was = subst (λ h. IsWasText names failure.kind h failure.budget c.put_was.new.text.items) (same step) (inr (told.0, told.1, told.2 ∙ ap (λ l. l ++ text) c.new-was.ensures.items));
    }

pub returns-in_ok-possible-in-Some-clause-possible : goal.returns-in_ok-possible-in-Some-clause-possible
returns-in_ok-possible-in-Some-clause-possible c =
    let failure = c.args.failure.now in
    let events = c.without_last-events.result.now in
    let possible = c.in_ok-possible-in-Some.possible in
    let after = subst (λ o. IfSome o (λ possible. IsAfter possible failure.kind (take c.quiet_before-from.result events))) c.in-Some.is c.in_ok-first.ensures.after in
    subst (λ h. ArePossible failure.kind h failure.budget possible) c.without_last-events.ensures
    (subst (λ kind. ArePossible kind events failure.budget possible) after.object
    (found_possible (kind_in c.in-Some.first) events failure.budget possible c.in_ok-possible-in-Some.ensures.after (λ is. c.in_ok-possible-in-Some.ensures.over (ap Ok is))))

pub returns-in_ok-possible-in-None-clause-quiet : goal.returns-in_ok-possible-in-None-clause-quiet
returns-in_ok-possible-in-None-clause-quiet c =
    let failure = c.args.failure.now in
    let step = (goal.at.returns-in_ok-possible-in-None-clause-quiet c).After-without_last-events in
    record {
      last = c.quiet_before-from.ensures;
      is_was = subst (λ h. IsWasText failure.stretch.names.now failure.kind h failure.budget c.new-was-in-None.result.items) (same step) (inl (c.in_ok-first.ensures.over (ap Ok c.in-None.is), c.new-was-in-None.ensures.items));
    }

pub returns-in_ok-possible-in-None-clause-possible : goal.returns-in_ok-possible-in-None-clause-possible
returns-in_ok-possible-in-None-clause-possible c =
    let failure = c.args.failure.now in
    let possible = c.in_ok-possible-in-None.possible in
    subst (λ h. ArePossible failure.kind h failure.budget possible) c.without_last-events.ensures
    (found_possible failure.kind c.without_last-events.result.now failure.budget possible c.in_ok-possible-in-None.ensures.after (λ is. c.in_ok-possible-in-None.ensures.over (ap Ok is)))

-- the quiet place is one of these
place_within : (c : After-without_last-events) → c.quiet_before-from.result ≤ length c.without_last-events.result.now
place_within c =
    let events = c.args.failure.now.stretch.events.now in
    let from = c.quiet_before-from.result in
    let within = invoked_within events from c.quiet_before-from.ensures.quiet.begins in
    let size = length-take-le (length events - 1) events (omega arith) in
    subst (λ l. from ≤ length l) (sym c.without_last-events.ensures) (omega (arith, within, size))

pub returns-in_ok-possible-in-Some-clause-counted : goal.returns-in_ok-possible-in-Some-clause-counted
returns-in_ok-possible-in-Some-clause-counted c =
    let before = c.args.meter.now.steps in
    let mid = c.after.new.meter.steps in
    let events = c.without_last-events.result.now in
    let from = c.quiet_before-from.result in
    let within = place_within (goal.at.returns-in_ok-possible-in-Some-clause-counted c).After-without_last-events in
    let first = subst (λ o. IfSome o (λ possible. mid ≡ ticked before (length (take from events)))) c.in-Some.is c.in_ok-first.ensures.counted in
    let size = length-take-le from events within in
    let here : mid ≡ ticked before from = subst (λ n. mid ≡ ticked before n) size first in
    subst (λ l. IfSome c.in_ok-possible-in-Some.possible (λ possible. ticked before (length l) ≤ c.go_on.new.meter.steps)) c.without_last-events.ensures
    (IfSome_then c.in_ok-possible-in-Some.possible c.in_ok-possible-in-Some.ensures.counted (λ possible others. passed_whole before mid c.go_on.new.meter.steps from (length events) within here others))

pub returns-in_ok-possible-in-None-clause-counted : goal.returns-in_ok-possible-in-None-clause-counted
returns-in_ok-possible-in-None-clause-counted c =
    let before = c.args.meter.now.steps in
    let mid = c.after.new.meter.steps in
    let events = c.without_last-events.result.now in
    let rising = ticked_rising before mid (length events) c.after.ensures.least in
    subst (λ l. IfSome c.in_ok-possible-in-None.possible (λ possible. ticked before (length l) ≤ c.after-in-None.new.meter.steps)) c.without_last-events.ensures
    (IfSome_then c.in_ok-possible-in-None.possible c.in_ok-possible-in-None.ensures.counted (λ possible all. omega (arith, rising, all)))
