use Rattle.std.proofs.Common.{◌≡◌, ◌⊎◌, false, refl, sym, ap, subst, arith, take, inl, inr}
use Rattle.std.proofs.lemmas.Option.{slice_get_within}
use Rattle.lin_events.specs.declared.calls.Name.{Name}
use Rattle.lin_events.specs.declared.calls.Reply.{Reply}
use Rattle.lin_events.specs.declared.events.Body.{Body}
use Rattle.lin_events.specs.declared.events.Body.TheVariants.{Ok, Fail, Info}
use Rattle.lin_events.specs.WellFormed.{Completes}
use Rattle.lin_order.specs.ConfigurationLaws.{with_event}
use Rattle.lin_frontier.specs.declared.pending.Open.{Open}
use Rattle.lin_frontier.specs.Frontiers.{IsPending}
use Rattle.lin_frontier.specs.lemmas.Listing.{pending_invoked, pending_returned, pending_crashed, completed_listed}
use Rattle.lin_frontier.proofs.Marks.{called_later}
use Rattle.lin_frontier.proofs.opens.OpenList.take_in.Goals as goal

-- an ok and a fail complete an operation
returned_name : (body : Body) → ((n : Name) × (reply : Reply) × (body ≡ Ok n reply)) ⊎ ((n : Name) × (body ≡ Fail n)) → (n : Name) × Completes body n
returned_name body (inl ok) = (ok.0, subst (λ b. Completes b ok.0) (sym ok.2) refl)
returned_name body (inr fail) = (fail.0, subst (λ b. Completes b fail.0) (sym fail.1) refl)

crashed_name : (body : Body) (n : Name) → body ≡ Info n → Completes body n
crashed_name body n is = subst (λ b. Completes b n) (sym is) refl

pub crash-requires-clause-inside : goal.crash-requires-clause-inside
crash-requires-clause-inside c =
    let xs = c.args.self.now.operations in
    let found = c.in-Some.ensures.found in
    omega (arith, slice_get_within xs.items c.in-Some.place found.1 found.2, xs.ok.0)

pub end-requires-clause-inside : goal.end-requires-clause-inside
end-requires-clause-inside c =
    let xs = c.args.self.now.operations in
    let found = c.in-Some-place_of.ensures.found in
    omega (arith, slice_get_within xs.items c.in-Some-place_of.place found.1 found.2, xs.ok.0)

pub returns-in-Invoke-clause-open : goal.returns-in-Invoke-clause-open
returns-in-Invoke-clause-open c = λ functions h next.
    let event = c.args.event.now in
    let xs = c.args.self.now.operations.items in
    let new : Open = record { process = event.process; at = c.args.at; call = c.in-Invoke.call; crashed = false } in
    subst (IsPending (with_event h event)) (sym c.push_reserved.ensures.items)
    (pending_invoked h event xs c.in-Invoke.call new c.in-Invoke.is (ap (λ n. record new { at = n }) (sym next.place)) next.opened)

pub returns-in-Some-clause-open : goal.returns-in-Some-clause-open
returns-in-Some-clause-open c = λ functions h next.
    let event = c.args.event.now in
    let xs = c.args.self.now.operations.items in
    let found = c.in-Some.ensures.found in
    pending_crashed c.well_formed_is_alternating.ensures c.ends_are_unique.ensures functions h event xs c.args.at next c.in-Info.field-0 (crashed_name event.body c.in-Info.field-0 c.in-Info.is)
    c.in-Some.place found.1 found.2 found.3 c.in-Info.field-0 c.in-Info.is c.args.self.now.crashed found.0 c.crash.new.self.operations.items (c.crash.ensures.operations found.1 found.2)

pub returns-in_default-clause-open : goal.returns-in_default-clause-open
returns-in_default-clause-open c = λ functions h next.
    let event = c.args.event.now in
    let self = c.args.self.now in
    let found = completed_listed c.well_formed_is_alternating.ensures c.ends_are_unique.ensures functions h event self.operations.items c.args.at next
    c.in-Info.field-0 (crashed_name event.body c.in-Info.field-0 c.in-Info.is) self.crashed (omega (arith, self.within, self.operations.ok.0)) self.in_front in
    absurd (c.in_default.ensures.none found.0 found.1 found.2 found.3 found.4)

pub returns-in-Some-place_of-clause-open : goal.returns-in-Some-place_of-clause-open
returns-in-Some-place_of-clause-open c = λ functions h next.
    let event = c.args.event.now in
    let xs = c.args.self.now.operations.items in
    let found = c.in-Some-place_of.ensures.found in
    let name = returned_name event.body c.in-Ok.is in
    subst (IsPending (with_event h event)) (sym c.end.ensures.operations)
    (pending_returned c.well_formed_is_alternating.ensures c.ends_are_unique.ensures functions h event xs c.args.at next name.0 name.1 c.in-Some-place_of.place found.1 found.2 found.3 c.in-Ok.is)

pub returns-in_default-place_of-clause-open : goal.returns-in_default-place_of-clause-open
returns-in_default-place_of-clause-open c = λ functions h next.
    let event = c.args.event.now in
    let self = c.args.self.now in
    let name = returned_name event.body c.in-Ok.is in
    let found = completed_listed c.well_formed_is_alternating.ensures c.ends_are_unique.ensures functions h event self.operations.items c.args.at next
    name.0 name.1 self.crashed (omega (arith, self.within, self.operations.ok.0)) self.in_front in
    absurd (c.in_default-place_of.ensures.none found.0 found.1 found.2 found.3 found.4)

pub returns-in-Invoke-clause-past : goal.returns-in-Invoke-clause-past
returns-in-Invoke-clause-past c = λ h place mark before past.
    let self = c.args.self.now in
    let event = c.args.event.now in
    let new : Open = record { process = event.process; at = c.args.at; call = c.in-Invoke.call; crashed = false } in
    let same = called_later place self.operations.items self.ended.items new mark (omega (arith, past.crashed, self.within, self.operations.ok.0)) before in
    record {
      marked = past.marked;
      crashed = past.crashed;
      ended = past.ended;
      open_then = subst (IsPending (take place h)) (sym (rw (sym c.push_reserved.ensures.items) at same)) past.open_then;
    }

pub returns-in-Some-clause-past : goal.returns-in-Some-clause-past
returns-in-Some-clause-past c = λ h place mark before past. c.crash.ensures.past h place mark past

pub returns-in-Some-place_of-clause-past : goal.returns-in-Some-place_of-clause-past
returns-in-Some-place_of-clause-past c = λ h place mark before past. c.end.ensures.past h place mark past
