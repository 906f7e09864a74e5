use Rattle.std.proofs.Common.{◌++◌, [], List, ℕ, Err, None, Some, take, inl, refl, sym, ap, ◌∙◌, arith}
use Rattle.std.proofs.KnownBytes.{Consumes-nil, Consumes-trans}
use Rattle.lin_report.proofs.Pulling.{goes_on, goes_on_still, more_on, not_none, pull_ends, pulled_more, pulled_none, pulled_piece, too_much_so_far}
use Rattle.lin_formats.specs.lemmas.Reading.{consumed_end, longer}
use Rattle.lin_report.proofs.pulls.pull.Goals as goal

pub pieces-init : goal.pieces-init
pieces-init g c = record {
  part = [];
  entered = [];
  pulled = pulled_none c.args.session.now.present c.args.names.now c.args.follow.now c.names_are_apart.ensures;
  consumed = Consumes-nil _;
  read_on = λ keyed before stands. inl refl;
  room = refl;
  counted = omega arith;
  uncounted = refl;
}

pub returns-in-Some-clause-pulled : goal.returns-in-Some-clause-pulled
returns-in-Some-clause-pulled g c = λ keyed before stands.
    let v = c.pieces.invariant in
    let e = rw c.in-Some.is at c.in_ok-refusal.ensures in
    pull_ends keyed before _ _ _ _ _ _ _ _ v.part (v.entered ++ e.0) (Some c.in-Some.refusal) stands (pulled_more _ _ _ _ _ _ _ _ v.part v.entered e.0 v.pulled e.1) e.2
    v.consumed (λ none. absurd (not_none c.in-Some.refusal none)) (v.read_on keyed before stands)

pub returns-then-count-eq0-clause-pulled : goal.returns-then-count-eq0-clause-pulled
returns-then-count-eq0-clause-pulled g c = λ keyed before stands.
    let v = c.pieces.invariant in
    let e = rw c.in_default.is at c.in_ok-refusal.ensures in
    let read = c.in-Ok.ensures.bytes in
    let consumed = consumed_end _ _ _ v.part c.read.new.buf c.in-Ok.count v.consumed read.0 c.if-count-eq0.true in
    pull_ends keyed before _ _ _ _ _ _ _ _ v.part (v.entered ++ e.0) None stands (pulled_more _ _ _ _ _ _ _ _ v.part v.entered e.0 v.pulled e.1) e.2
    consumed (λ none. read.1 c.if-count-eq0.true (omega arith)) (v.read_on keyed before stands)

pub returns-in_err-feed-clause-reads : goal.returns-in_err-feed-clause-reads
returns-in_err-feed-clause-reads g c =
    let v = c.pieces.invariant in
    let e = rw c.in_default.is at c.in_ok-refusal.ensures in
    let pulled = pulled_more _ _ _ _ _ _ _ _ v.part v.entered e.0 v.pulled e.1 in
    let piece : List ℕ = take c.in-Ok.count c.read.new.buf in (
      more_on _ _ _ v.pulled.more c.in_err-feed.ensures.names,
      v.part ++ piece,
      Consumes-trans _ _ _ v.part _ v.consumed c.in-Ok.ensures.bytes.0,
      λ is bytes put seen.
          let same = rw is at c.from_residual-in_err-feed.ensures.1 in
          too_much_so_far c.names_grow.ensures.agree _ _ _ _ _ _ v.part piece (v.entered ++ e.0) pulled (c.in_err-feed.ensures.too_much (ap Err (sym same))) bytes put seen,
    )

pub pieces-preserved : goal.pieces-preserved
pieces-preserved g c =
    let v = c.pieces.invariant in
    let e = rw c.in_default.is at c.in_ok-refusal.ensures in
    let pulled = pulled_more _ _ _ _ _ _ _ _ v.part v.entered e.0 v.pulled e.1 in
    let piece : List ℕ = take c.in-Ok.count c.read.new.buf in
    let more = longer c.pieces.counter c.in-Ok.count v.part c.read.new.buf v.counted c.in-Ok.ensures.bound.0 (omega arith) in
    record {
      part = v.part ++ piece;
      entered = v.entered ++ e.0;
      pulled = pulled_piece _ _ _ _ _ _ _ _ v.part piece (v.entered ++ e.0) c.in_ok-feed.ensures.fed.0 pulled c.in_ok-feed.ensures.names c.in_ok-feed.ensures.fed.1;
      consumed = Consumes-trans _ _ _ v.part _ v.consumed c.in-Ok.ensures.bytes.0;
      read_on = λ keyed before stands. goes_on_still keyed _ _ before v.part piece c.in_ok-feed.ensures.names (v.read_on keyed before stands)
          (goes_on keyed before _ _ _ _ _ _ _ v.part (v.entered ++ e.0) stands pulled e.2);
      room = c.read.auto.buf ∙ v.room;
      counted = more.0;
      uncounted = c.in-Ok.ensures.counts ∙ v.uncounted;
    }
