use Rattle.std.proofs.Common.{◌≡◌, All, get_or, ◌<◌, length, refl, sym, subst, ◌∙◌, arith, false, true, take, set, length-set, ◌+◌}
use Rattle.std.specs.HashMap.{get}
use Rattle.std.proofs.lemmas.Option.{slice_get_read}
use Rattle.std.proofs.lemmas.List.Elements.{All-contains}
use Rattle.lin_events.specs.Items.{item_eq}
use Rattle.lin_events.specs.declared.calls.Call.{Call}
use Rattle.lin_objects.specs.Kinds.{kind_of}
use Rattle.lin_order.specs.Orders.{IsCall}
use Rattle.lin_order.specs.Tables.{IsMarked, KeepsOutcome, KeepsRealTime, NamesOnce, NamesOperations, state_of}
use Rattle.lin_order.specs.lemmas.Lists.{said_yes, said_no}
use Rattle.lin_order.specs.lemmas.Each.{all_more, contains_here, at_end}
use Rattle.lin_order.specs.lemmas.OneEnd.{body_of, call_on, call_since}
use Rattle.lin_order.specs.lemmas.Assembling.{operations_inside}
use Rattle.lin_order.specs.lemmas.Running.{HasRun, run_more, run_stuck}
use Rattle.lin_order.proofs.Marks.{marked_more, once_more, unmarked_here}
use Rattle.lin_order.proofs.RealTime.{IsLatestOf, latest_more, real_time_more, real_time_broken}
use Rattle.lin_order.proofs.legality.marks_of.Goals as goal

pub returns-then-not-fits_next : goal.returns-then-not-fits_next
returns-then-not-fits_next c fits =
    let h = c.args.events.now in
    let order = c.args.order.now in
    let i = c.loop-placed.placed-index in
    let p = c.placed-item.result in
    let inside = c.loop-placed-test.true in
    let is = c.placed-item.is in
    let so_far = c.loop-placed.invariant in
    let here = contains_here order i p inside is in
    let within = All-contains (λ q. q.at < length h) order p (operations_inside h order fits.0) here in
    let fresh = subst (λ l. get_or l p.at false ≡ false) (sym c.deref.ensures.value) (unmarked_here order i p inside is c.loop-placed.marks.items so_far.marked fits.1) in
    let keeps = All-contains (KeepsOutcome h) order p fits.2 here in
    let yes = c.fits_next.ensures.1 (within, fresh, keeps, λ before. real_time_broken h order i c.loop-placed.latest p inside is so_far.latest before fits.3) in
    let no = c.if-not-fits_next.true in cc

pub returns-then-not-taken : goal.returns-then-not-taken
returns-then-not-taken c fits =
    let h = c.args.events.now in
    let order = c.args.order.now in
    let p = c.placed-item.result in
    let event = c.index-events-placed.result in
    let here = contains_here order c.loop-placed.placed-index p c.loop-placed-test.true c.placed-item.is in
    let inside = (c.fits_next.ensures.0 c.if-not-fits_next.false).0 in
    let names = All-contains (λ q. (call : Call) × IsCall h q.at call) order p fits.0 here in
    let there = slice_get_read h _ p.at event refl inside c.index-events-placed.is in
    let stuck = said_no c.in_ok-taken.taken _ _ c.in_ok-taken.ensures c.if-not-taken.true in
    run_stuck (kind_of c.args.kinds.now) h order c.loop-placed.placed-index p c.loop-placed-test.true c.placed-item.is
    event.key names.0 (call_on h p.at event there names.0 names.1) (get item_eq c.loop-placed.states) c.loop-placed.invariant.run c.replies_decide.ensures
    (λ next. stuck names.0 next (body_of h p.at event there names.0 names.1)) fits.4

pub loop-placed-preserved : goal.loop-placed-preserved
loop-placed-preserved c =
    let h = c.args.events.now in
    let order = c.args.order.now in
    let i = c.loop-placed.placed-index in
    let p = c.placed-item.result in
    let inside = c.loop-placed-test.true in
    let is = c.placed-item.is in
    let so_far = c.loop-placed.invariant in
    let marks = c.loop-placed.marks.items in
    let many = so_far.length_of in
    let fits = c.fits_next.ensures.0 c.if-not-fits_next.false in
    let of_events = fits.0 in
    let within : p.at < length marks = omega arith in
    let event = c.index-events-placed.result in
    let there = slice_get_read h _ p.at event refl fits.0 c.index-events-placed.is in
    let taken = said_yes c.in_ok-taken.taken _ _ c.in_ok-taken.ensures c.if-not-taken.false in
    let on = call_since h p.at event there taken.0 taken.1 in
    record {
      names = all_more order i p inside is (λ q. (call : Call) × IsCall h q.at call) so_far.names (taken.0, (on.0, event.key, on.1));
      once = once_more order i p inside is marks so_far.marked (subst (λ l. get_or l p.at false ≡ false) c.deref.ensures.value fits.1) so_far.once;
      marked = marked_more order i p inside is marks so_far.marked (set marks p.at true) within refl;
      length_of = length-set marks p.at true ∙ many;
      keeps = all_more order i p inside is (KeepsOutcome h) so_far.keeps fits.2;
      in_time = real_time_more h order i c.loop-placed.latest p inside is so_far.latest fits.3 so_far.in_time;
      latest = subst (IsLatestOf (take (i + 1) order)) (sym c.max-latest.ensures) (latest_more h order i c.loop-placed.latest p inside is so_far.latest);
      run = run_more (kind_of c.args.kinds.now) h order i p inside is event.key taken.0 on (get item_eq c.loop-placed.states) so_far.run (get item_eq c.take_step.new.states) taken.2;
    }

pub returns : goal.returns
returns c =
    let h = c.args.events.now in
    let order = c.args.order.now in
    let past = c.loop-placed-test.false in
    let i = c.loop-placed.placed-index in
    let so_far = c.loop-placed.invariant in
    let ran = at_end order i (λ o. HasRun (kind_of c.args.kinds.now) h o (get item_eq c.loop-placed.states)) past so_far.run in (
      (
        at_end order i (NamesOperations h) past so_far.names,
        at_end order i NamesOnce past so_far.once,
        at_end order i (All (KeepsOutcome h)) past so_far.keeps,
        at_end order i (KeepsRealTime h) past so_far.in_time,
        λ key. (state_of (kind_of c.args.kinds.now) (get item_eq c.loop-placed.states) key, ran.each key),
      ),
      at_end order i (λ o. IsMarked o c.loop-placed.marks.items) past so_far.marked,
      so_far.length_of,
    )
