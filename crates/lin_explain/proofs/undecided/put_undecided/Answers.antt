use Rattle.std.proofs.Common.{◌≡◌, ◌≤◌, ◌+◌, ◌*◌, ◌++◌, ◌∙◌, ap, arith, length, option_map, refl, rules, Some, subst, sym, take}
use Rattle.lin_events.specs.declared.events.Event.{Event}
use Rattle.lin_events.specs.declared.meter.Meter.{Meter}
use Rattle.lin_events.specs.Meters.{ticked}
use Rattle.lin_events.specs.lemmas.StatusLemmas.{one_event}
use Rattle.lin_answers.specs.Answers.{kinds_in}
use Rattle.lin_order.specs.Parts.{part}
use Rattle.lin_explain.specs.Certain.{IsCertainText}
use Rattle.lin_explain.specs.Undecided.{IsOpenText, event_line}
use Rattle.lin_explain.specs.inner.Own.{stretch_of}
use Rattle.lin_explain.proofs.Passing.{own_within, passed_on}
use Rattle.lin_explain.proofs.Texts.{three_put}
use Rattle.lin_explain.proofs.undecided.put_undecided.Goals as goal

pub returns-clause-told : goal.returns-clause-told
returns-clause-told c =
    let now = c.args.present.now in
    let event = c.in-Some.event.now in
    let places = option_map (λ p. p.now) c.args.origin.now.places in
    let own = c.in_ok-own.ensures.own in
    let stretch = stretch_of c.args.origin.now.names.now c.in_ok-own.own places in
    let back = c.in_ok-put_object_open.ensures in
    let front = event_line c.args.origin.now.names.now c.kind_for-kind.result c.budget-budget.result places c.args.at event in
    let certain = c.in_ok-why.ensures.told in (
      (front ++ back.0) ++ certain.1,
      record {
        event = event;
        stretch = stretch;
        back = back.0;
        spot = c.in_ok-spot_of.field-0;
        stands = c.in-Some.ensures.found;
        own = record { names_of = refl; events_of = own.events_of; positions = own.positions; places_of = refl };
        is_open = subst (λ b. IsOpenText stretch b c.args.keyed back.0) c.budget-budget.ensures back.1;
        whole = certain.0;
        certain = certain.1;
        why = c.in_ok-why.why;
        whole_own = certain.2;
        is_certain = subst (λ k. IsCertainText k certain.0 certain.1 c.in_ok-why.why) c.kind_for-kind.ensures certain.3;
        says = ap (λ k. (event_line c.args.origin.now.names.now k c.budget-budget.result places c.args.at event ++ back.0) ++ certain.1) c.kind_for-kind.ensures
            ∙ ap (λ n. (event_line c.args.origin.now.names.now (kinds_in now event.key) n places c.args.at event ++ back.0) ++ certain.1) c.budget-budget.ensures;
        is_spot = c.in_ok-spot_of.ensures;
        parts_told = search rules;
      },
      three_put c.args.text.now.items front back.0 certain.1 c.put_event_line.new.text.items c.put_object_open.new.text.items c.put_certain_reason.new.text.items
          c.in_ok-put_event_line.ensures back.2 certain.4,
    )

pub returns-clause-counted : goal.returns-clause-counted
returns-clause-counted c = λ event stands.
    let at = c.args.at in
    let h = c.args.present.now.history in
    let before = c.args.meter.now.steps in
    let mid = c.own_of.new.meter.steps in
    let after = c.tick_passes.new.meter.steps in
    let own = c.in_ok-own.own.events.items in
    let first = ap (λ (m : Meter). m.steps) c.own_of.ensures.counted in
    let others : after ≡ ticked mid (4 * length own) = ap (λ (m : Meter). m.steps) c.tick_passes.ensures.counted ∙ ap (λ n. ticked mid (4 * n)) (c.len.ensures ∙ c.in_ok-own.own.events.ok.0) in
    let whole = passed_on before (at + 1) (4 * length own) mid after first (omega (arith, others)) in
    let same : c.in-Some.event.now ≡ event = one_event h at c.in-Some.event.now event c.in-Some.ensures.found stands in
    let own_is = ap length c.in_ok-own.ensures.own.events_of in
    let more : after ≤ c.put_certain_reason.new.meter.steps = c.put_certain_reason.ensures.least in
    let all = subst (λ (e : Event). ticked before ((at + 1) + 4 * length (part e.key (take (at + 1) h))) ≤ after) same (subst (λ n. ticked before ((at + 1) + 4 * n) ≤ after) own_is whole) in
    omega (arith, all, more)
