use Rattle.std.proofs.Common.{[], Err, take, ◌++◌, ◌∙◌, refl, sym, ap, subst, arith}
use Rattle.std.proofs.KnownBytes.{Consumes-nil, Consumes-trans}
use Rattle.lin_names.specs.lemmas.Begins.{begins_itself, begins_on}
use Rattle.lin_formats.specs.Histories.{AreAllPassed, IsHistory}
use Rattle.lin_formats.proofs.Taking.{fed_nothing}
use Rattle.lin_formats.specs.lemmas.Reading.{consumed_end, ends_at_end, refused_for, not_refused, not_refused_so, stops_for, longer, fits}
use Rattle.lin_formats.proofs.inputs.read_stream.Goals as goal

pub returns-then-count-eq0-clause-read : goal.returns-then-count-eq0-clause-read
returns-then-count-eq0-clause-read g c =
    let v = c.pieces.invariant in
    let read = c.in-Ok.ensures.bytes in
    let history = c.in_ok-history.history in (
      v.bytes,
      consumed_end _ _ _ v.bytes c.read.new.buf c.in-Ok.count v.consumed read.0 c.if-count-eq0.true,
      v.within,
      ends_at_end history _ (read.1 c.if-count-eq0.true (omega arith)),
      subst (λ k. IsHistory k c.pieces.names v.bytes history) v.keyed (c.in_ok-history.ensures.said v.bytes v.taken),
      subst (AreAllPassed v.bytes history) (sym c.passed_over.ensures) (c.in_ok-history.ensures.passed v.bytes v.taken),
    )

pub returns-in_err-refusal-clause-too_much : goal.returns-in_err-refusal-clause-too_much
returns-in_err-refusal-clause-too_much g c = λ e.
    let v = c.pieces.invariant in
    let more = longer c.pieces.counter c.in-Ok.count v.bytes c.read.new.buf v.counted c.in-Ok.ensures.bound.0 (omega arith) in
    let same = rw e at c.from_residual-in_err-refusal.ensures.1 in
    let large = c.in_err-refusal.ensures.too_much (ap Err (sym same)) v.bytes v.taken in
    (v.bytes ++ take c.in-Ok.count c.read.new.buf, Consumes-trans _ _ _ v.bytes _ v.consumed c.in-Ok.ensures.bytes.0, omega arith)

pub returns-in-Some-clause-read : goal.returns-in-Some-clause-read
returns-in-Some-clause-read g c =
    let v = c.pieces.invariant in
    let bytes = v.bytes ++ take c.in-Ok.count c.read.new.buf in
    let more = longer c.pieces.counter c.in-Ok.count v.bytes c.read.new.buf v.counted c.in-Ok.ensures.bound.0 (omega arith) in (
      bytes,
      Consumes-trans _ _ _ v.bytes _ v.consumed c.in-Ok.ensures.bytes.0,
      fits _ v.bytes _ (omega (arith, v.room, c.read.auto.buf, c.in-Ok.ensures.bound)) v.going (c.in_ok-refusal.ensures.within v.bytes v.taken) _ more.1,
      stops_for _ _ _ c.in-Some.is c.in_ok-refusal.ensures.stops,
      refused_for _ _ _ c.args.keyed c.take_piece.new.names bytes _ c.in-Some.is (c.in_ok-refusal.ensures.keyed ∙ v.keyed) (c.in_ok-refusal.ensures.taken v.bytes v.taken),
      tt,
    )

pub pieces-preserved : goal.pieces-preserved
pieces-preserved g c =
    let v = c.pieces.invariant in
    let more = longer c.pieces.counter c.in-Ok.count v.bytes c.read.new.buf v.counted c.in-Ok.ensures.bound.0 (omega arith) in
    record {
      bytes = v.bytes ++ take c.in-Ok.count c.read.new.buf;
      consumed = Consumes-trans _ _ _ v.bytes _ v.consumed c.in-Ok.ensures.bytes.0;
      begun = begins_on _ _ _ v.begun c.in_ok-refusal.ensures.begun;
      taken = not_refused _ _ _ c.in_default-2.is (c.in_ok-refusal.ensures.taken v.bytes v.taken);
      going = λ _. not_refused_so _ _ c.in_default-2.is c.in_ok-refusal.ensures.goes_on;
      within = fits _ v.bytes _ (omega (arith, v.room, c.read.auto.buf, c.in-Ok.ensures.bound)) v.going (c.in_ok-refusal.ensures.within v.bytes v.taken) _ more.1;
      keyed = c.in_ok-refusal.ensures.keyed ∙ v.keyed;
      room = c.read.auto.buf ∙ v.room;
      counted = more.0;
      uncounted = c.in-Ok.ensures.counts ∙ v.uncounted;
    }

pub pieces-init : goal.pieces-init
pieces-init g c = record {
  bytes = [];
  consumed = Consumes-nil _;
  begun = begins_itself _;
  taken = fed_nothing _ _ _ (λ m reading. c.new-follow.ensures.sees m (reading.0 ∙ c.new-follow.ensures.keyed)) c.new-follow.ensures.ready c.new-events.ensures.items;
  going = λ some. absurd (omega (arith, some));
  within = omega arith;
  keyed = c.new-follow.ensures.keyed;
  room = refl;
  counted = omega arith;
  uncounted = refl;
}

pub returns-in_err-history-clause-too_much : goal.returns-in_err-history-clause-too_much
returns-in_err-history-clause-too_much g c = λ e. absurd (c.in_err-history.ensures.said c.pieces.invariant.bytes c.pieces.invariant.taken)

pub returns-in_err-history-clause-counts : goal.returns-in_err-history-clause-counts
returns-in_err-history-clause-counts g c = absurd (c.in_err-history.ensures.said c.pieces.invariant.bytes c.pieces.invariant.taken)

pub returns-in_err-history-clause-readers : goal.returns-in_err-history-clause-readers
returns-in_err-history-clause-readers g c = λ e. c.in_err-history.ensures.said c.pieces.invariant.bytes c.pieces.invariant.taken
