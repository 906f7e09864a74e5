use Rattle.std.proofs.Common.{[], rules, Err, take, ◌++◌, ◌∙◌, refl, sym, ap, subst, arith}
use Rattle.std.proofs.KnownBytes.{Consumes-trans}
use Rattle.lin_formats.specs.lemmas.Reading.{consumed_end, ends_at_end, refused_for, not_refused, not_refused_so, stops_for, longer, fits}
use Rattle.lin_formats.specs.Histories.{AreAllPassed, IsHistory}
use Rattle.lin_formats.specs.Intakes.{IsFed}
use Rattle.lin_names.specs.lemmas.Begins.{begins_itself, begins_on}
use Rattle.lin_history.specs.Reading.{Reading}
use Rattle.lin_formats.proofs.Calm.{calm_so}
use Rattle.lin_formats.proofs.Later.{fed_later, reading_before, refused_later}
use Rattle.lin_formats.proofs.reading.read_any.Goals as goal

pub pieces-init : goal.pieces-init
pieces-init g c = record {
  bytes = [];
  begun = begins_itself c.args.names.now;
  consumed = search rules;
  taken = subst (IsFed c.args.names.now c.new-follow.result []) (sym c.new-events.ensures.items)
      (record { sees = λ m is. c.new-follow.ensures.sees m (is.0 ∙ c.new-follow.ensures.keyed); none_ready = c.new-follow.ensures.ready; within = omega arith });
  going = λ some. absurd (omega arith);
  within = omega arith;
  keyed = c.new-follow.ensures.keyed;
  room = refl;
  counted = omega arith;
  first = c.new-first.ensures.items;
  marks = λ m is. c.new-places.ensures.marks m is.0;
  held = c.new-places.ensures.held;
  calm = c.new-places.ensures.calm;
  keyed_places = c.new-places.ensures.keyed;
  uncounted = refl;
}

pub returns-then-count-eq0-clause-read : goal.returns-then-count-eq0-clause-read
returns-then-count-eq0-clause-read g c =
    let v = c.pieces.invariant in
    let read = c.in-Ok.ensures.bytes in
    let history = c.in_ok-history.history in (
      v.bytes,
      consumed_end _ _ _ v.bytes c.read.new.buf c.in-Ok.count v.consumed read.0 c.if-count-eq0.true,
      v.within,
      ends_at_end history _ (read.1 c.if-count-eq0.true (omega arith)),
      subst (λ k. IsHistory k c.pieces.names v.bytes history) v.keyed (c.in_ok-history.ensures.said v.bytes v.taken),
      v.marks,
      v.keyed_places,
      v.held,
      v.first,
      subst (AreAllPassed v.bytes history) (sym c.passed_over.ensures) (c.in_ok-history.ensures.passed v.bytes v.taken),
    )

pub returns-in_err-refusal-clause-too_much : goal.returns-in_err-refusal-clause-too_much
returns-in_err-refusal-clause-too_much g c = λ e.
    let v = c.pieces.invariant in
    let more = longer c.pieces.counter c.in-Ok.count v.bytes c.read.new.buf v.counted c.in-Ok.ensures.bound.0 (omega arith) in
    let same = rw e at c.from_residual-in_err-refusal.ensures.1 in
    let large = c.in_err-refusal.ensures.too_much (ap Err (sym same)) v.bytes v.taken in
    (v.bytes ++ take c.in-Ok.count c.read.new.buf, Consumes-trans _ _ _ v.bytes _ v.consumed c.in-Ok.ensures.bytes.0, omega arith)

pub returns-in-Some-clause-read : goal.returns-in-Some-clause-read
returns-in-Some-clause-read g c =
    let v = c.pieces.invariant in
    let bytes = v.bytes ++ take c.in-Ok.count c.read.new.buf in
    let more = longer c.pieces.counter c.in-Ok.count v.bytes c.read.new.buf v.counted c.in-Ok.ensures.bound.0 (omega arith) in
    let first = c.in_ok-refusal.ensures.begun in
    let second = c.in_ok-feed.ensures.begun in
    let numbering = c.some_numbering.ensures.numbering in
    let reading : Reading = record { keyed = c.args.keyed; number = numbering.0 } in (
      bytes,
      Consumes-trans _ _ _ v.bytes _ v.consumed c.in-Ok.ensures.bytes.0,
      fits _ v.bytes _ (omega (arith, v.room, c.read.auto.buf, c.in-Ok.ensures.bound)) v.going (c.in_ok-refusal.ensures.within v.bytes v.taken) _ more.1,
      stops_for _ _ _ c.in-Some.is c.in_ok-refusal.ensures.stops,
      refused_later _ _ second c.args.keyed bytes _ (refused_for _ _ _ c.args.keyed _ bytes _ c.in-Some.is (c.in_ok-refusal.ensures.keyed ∙ v.keyed) (c.in_ok-refusal.ensures.taken v.bytes v.taken)),
      λ m is. (c.in_ok-feed.ensures.feeds.1 m is.1 v.bytes (v.marks m (reading_before _ _ (begins_on _ _ _ first second) c.args.keyed m is))).0,
      c.in_ok-feed.ensures.feeds.0 ∙ v.keyed_places,
      (c.in_ok-feed.ensures.feeds.1 reading numbering.1 v.bytes (v.marks reading (reading_before _ _ (begins_on _ _ _ first second) c.args.keyed reading (refl, numbering.1)))).1 v.calm,
      c.in_ok-keep_first.ensures v.bytes v.first,
      tt,
    )

pub pieces-preserved : goal.pieces-preserved
pieces-preserved g c =
    let v = c.pieces.invariant in
    let more = longer c.pieces.counter c.in-Ok.count v.bytes c.read.new.buf v.counted c.in-Ok.ensures.bound.0 (omega arith) in
    let first = c.in_ok-refusal.ensures.begun in
    let second = c.in_ok-feed.ensures.begun in
    let both = begins_on _ _ _ first second in
    let numbering = c.some_numbering.ensures.numbering in
    let reading : Reading = record { keyed = c.args.keyed; number = numbering.0 } in
    let here = c.in_ok-feed.ensures.feeds.1 reading numbering.1 v.bytes (v.marks reading (reading_before _ _ both c.args.keyed reading (refl, numbering.1))) in
    let fed = fed_later _ _ second _ _ _ (not_refused _ _ _ c.in_default-refusal.is (c.in_ok-refusal.ensures.taken v.bytes v.taken)) in
    let keyed = c.in_ok-refusal.ensures.keyed ∙ v.keyed in
    let going = not_refused_so _ _ c.in_default-refusal.is c.in_ok-refusal.ensures.goes_on in
    record {
      bytes = v.bytes ++ take c.in-Ok.count c.read.new.buf;
      begun = begins_on _ _ _ v.begun both;
      consumed = Consumes-trans _ _ _ v.bytes _ v.consumed c.in-Ok.ensures.bytes.0;
      taken = fed;
      going = λ _. going;
      within = fits _ v.bytes _ (omega (arith, v.room, c.read.auto.buf, c.in-Ok.ensures.bound)) v.going (c.in_ok-refusal.ensures.within v.bytes v.taken) _ more.1;
      keyed = keyed;
      room = c.read.auto.buf ∙ v.room;
      counted = more.0;
      first = c.in_ok-keep_first.ensures v.bytes v.first;
      marks = λ m is. (c.in_ok-feed.ensures.feeds.1 m is.1 v.bytes (v.marks m (reading_before _ _ both c.args.keyed m is))).0;
      held = here.1 v.calm;
      calm = calm_so c.some_numbering.ensures.streams reading _ _ _ _ (fed.sees reading (sym keyed, numbering.1)) here.0 going;
      keyed_places = c.in_ok-feed.ensures.feeds.0 ∙ v.keyed_places;
      uncounted = c.in-Ok.ensures.counts ∙ v.uncounted;
    }

pub returns-in_err-history-clause-too_much : goal.returns-in_err-history-clause-too_much
returns-in_err-history-clause-too_much g c = λ e. absurd (c.in_err-history.ensures.said c.pieces.invariant.bytes c.pieces.invariant.taken)

pub returns-in_err-history-clause-counts : goal.returns-in_err-history-clause-counts
returns-in_err-history-clause-counts g c = absurd (c.in_err-history.ensures.said c.pieces.invariant.bytes c.pieces.invariant.taken)

pub returns-in_err-history-clause-readers : goal.returns-in_err-history-clause-readers
returns-in_err-history-clause-readers g c = λ e. c.in_err-history.ensures.said c.pieces.invariant.bytes c.pieces.invariant.taken
