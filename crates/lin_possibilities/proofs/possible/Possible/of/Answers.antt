use Rattle.std.proofs.Common.{◌≡◌, ◌+◌, ◌-◌, Ok, ◌∙◌, arith, refl, sym, subst, take, ap, length, Some, ℕ}
use Rattle.std.proofs.lemmas.List.{take_all}
use Rattle.std.proofs.lemmas.Option.{slice_get-get_or}
use Rattle.lin_events.specs.Meters.{ticked}
use Rattle.lin_events.specs.Operations.{IsEvent}
use Rattle.lin_objects.specs.Steps.{Step, start}
use Rattle.lin_order.specs.Configurations.{IsOver}
use Rattle.lin_order.specs.Linearizable.{IsLinearizableAs}
use Rattle.lin_objects.specs.Observing.{observes}
use Rattle.lin_frontier.specs.lemmas.Answered.{from_none, from_some}
use Rattle.lin_members.specs.Listed.{IsListingOf}
use Rattle.lin_possibilities.specs.After.{IsAfter}
use Rattle.lin_possibilities.specs.Running.{IsKnown, kind_of}
use Rattle.lin_possibilities.specs.lemmas.Ticks.{ticked_next, ticked_none}
use Rattle.lin_possibilities.proofs.Listings.{listing_after}
use Rattle.lin_possibilities.proofs.possible.Possible.of.Goals as goal
use Rattle.lin_possibilities.proofs.possible.Possible.of.Goals.{In_ok-members, In_ok-take_in, In_ok-told}

pub loop-at-init : goal.loop-at-init
loop-at-init c = record {
  kind = refl;
  known = c.requires.known;
  counted = ticked_none c.args.from c.args.meter.now.steps;
  least = omega arith;
  most = omega arith;
  scans = refl;
}

there : (c : In_ok-take_in) → IsEvent c.args.events.now c.loop-at.at c.index-events-at.result
there c = slice_get-get_or c.args.events.now c.loop-at.at c.index-events-at.result c.loop-at-test.true ∙ ap Some (sym c.index-events-at.is)

pub returns-in-Over-clause-over : goal.returns-in-Over-clause-over
returns-in-Over-clause-over c = λ _.
    let over = c.in_ok-take_in.ensures.over (ap Ok c.in-Over.is) c.requires.well_formed.0 c.args.events.now c.requires.well_formed.1 (there (goal.at.returns-in-Over-clause-over c).In_ok-take_in) c.loop-at.invariant.known in
    subst (λ kind. (n : ℕ) × IsOver (start kind) (Step kind) (take n c.args.events.now) c.args.budget) c.loop-at.invariant.kind over

pub unreachable-requires : goal.unreachable-requires
unreachable-requires c =
    let begun = c.prefixes_are_linearizable_by.ensures c.args.events.now (c.loop-at.at + 1) c.requires.legal in
    c.in_ok-take_in.ensures.empty (ap Ok c.in-Empty.is) c.requires.well_formed.0 c.args.events.now c.requires.well_formed.1 (there (goal.at.unreachable-requires c).In_ok-take_in) c.loop-at.invariant.known
    (subst (λ kind. IsLinearizableAs kind (take (c.loop-at.at + 1) c.args.events.now)) (sym c.loop-at.invariant.kind) begun)

pub loop-at-preserved : goal.loop-at-preserved
loop-at-preserved c =
    let was = c.loop-at.invariant in
    let from = c.loop-at.auto.at in
    let one = c.take_in.ensures.steps in
    record {
      kind = c.take_in.ensures.kind ∙ was.kind;
      known = c.in_ok-take_in.ensures.next (ap Ok c.in-Next.is) c.requires.well_formed.0 c.args.events.now c.requires.well_formed.1 (there (goal.at.loop-at-preserved c).In_ok-take_in) was.known;
      counted = ticked_next c.args.from c.loop-at.at c.args.meter.now.steps c.loop-at.meter.steps c.take_in.new.meter.steps from was.counted one;
      least = grind arith;
      most = omega (arith, was.most, from, one);
      scans = c.take_in.ensures.scans ∙ was.scans;
    }

known : (c : In_ok-members) → IsKnown c.loop-at.run c.args.events.now (length c.args.events.now)
known c =
    let end = c.loop-at.auto.at-end in
    let done = c.loop-at-test.false in
    subst (IsKnown c.loop-at.run c.args.events.now) (omega (arith, end, done)) c.loop-at.invariant.known

known_told : (c : In_ok-told) → IsKnown c.loop-at.run c.args.events.now (length c.args.events.now)
known_told c =
    let end = c.loop-at.auto.at-end in
    let done = c.loop-at-test.false in
    subst (IsKnown c.loop-at.run c.args.events.now) (omega (arith, end, done)) c.loop-at.invariant.known

pub told-requires : goal.told-requires
told-requires c = sym c.is_overwritten.ensures ∙ c.if-is_overwritten.true

pub listed-requires : goal.listed-requires
listed-requires c = sym c.is_overwritten.ensures ∙ c.if-is_overwritten.false

pub returns-then-is_overwritten-clause-after : goal.returns-then-is_overwritten-clause-after
returns-then-is_overwritten-clause-after c =
    let h = c.args.events.now in
    let step = (goal.at.returns-then-is_overwritten-clause-after c).In_ok-told in
    subst (λ kind. IsAfter (record { run = c.told.new.self; members = c.in_ok-told.told }) kind h) c.loop-at.invariant.kind
    (c.in_ok-told.ensures.after c.requires.well_formed.0 h c.requires.well_formed.1 (known_told step))

pub returns-clause-after : goal.returns-clause-after
returns-clause-after c =
    let h = c.args.events.now in
    let step = (goal.at.returns-clause-after c).In_ok-members in
    let list = from_some _ c.in-Some.is c.in_ok-members.ensures.listing c.requires.well_formed.0 h c.requires.well_formed.1 (known step) in
    listing_after (record { run = c.listed.new.self; members = c.in-Some.members }) (kind_of c.args.run) h c.rounds_spell_members.ensures.ends
    (subst (λ kind. IsListingOf (start kind) (Step kind) (observes kind) h c.in-Some.members.items c.listed.new.self.nodes) c.loop-at.invariant.kind list)
    (c.listed.ensures.kind ∙ c.loop-at.invariant.kind) (c.in_ok-members.ensures.known h (length h) (known step))

pub returns-in_default-clause-over : goal.returns-in_default-clause-over
returns-in_default-clause-over c = λ _.
    let h = c.args.events.now in
    let step = (goal.at.returns-in_default-clause-over c).In_ok-members in
    let over = from_none _ c.in_default.is c.in_ok-members.ensures.over c.requires.well_formed.0 h c.requires.well_formed.1 (known step) in (
      length h,
      subst (λ g. IsOver (start (kind_of c.args.run)) (Step (kind_of c.args.run)) g c.args.budget) (sym (take_all (length h) h (omega arith))) (subst (λ kind. IsOver (start kind) (Step kind) h c.args.budget) c.loop-at.invariant.kind over),
    )

-- at the end each event behind the first ones is counted
counted : (c : In_ok-members) → c.loop-at.meter.steps ≡ ticked c.args.meter.now.steps (length c.args.events.now - c.args.from)
counted c =
    let end = c.loop-at.auto.at-end in
    let done = c.loop-at-test.false in
    let within = c.requires.within in
    subst (λ n. c.loop-at.meter.steps ≡ ticked c.args.meter.now.steps (n - c.args.from)) (omega (arith, end, done, within)) c.loop-at.invariant.counted

counted_told : (c : In_ok-told) → c.loop-at.meter.steps ≡ ticked c.args.meter.now.steps (length c.args.events.now - c.args.from)
counted_told c =
    let end = c.loop-at.auto.at-end in
    let done = c.loop-at-test.false in
    let within = c.requires.within in
    subst (λ n. c.loop-at.meter.steps ≡ ticked c.args.meter.now.steps (n - c.args.from)) (omega (arith, end, done, within)) c.loop-at.invariant.counted

pub returns-then-is_overwritten-clause-counted : goal.returns-then-is_overwritten-clause-counted
returns-then-is_overwritten-clause-counted c = c.told.ensures.steps ∙ counted_told (goal.at.returns-then-is_overwritten-clause-counted c).In_ok-told

pub returns-clause-counted : goal.returns-clause-counted
returns-clause-counted c = c.listed.ensures.steps ∙ counted (goal.at.returns-clause-counted c).In_ok-members
