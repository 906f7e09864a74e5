use Rattle.std.proofs.Common.{◌-◌, length, subst, Err, ap, ◌∙◌, arith}
use Rattle.lin_names.specs.lemmas.Begins.{begins_itself}
use Rattle.lin_history.specs.Sees.{Followed, Feeds}
use Rattle.lin_history.proofs.Feeding.{feeds_behind_fault, taken_in, feeds_fault, feeds_ok}
use Rattle.lin_history.specs.inner.Passing.{gathered}
use Rattle.lin_history.proofs.follow.Follow.feed.Goals as goal
use Rattle.lin_history.proofs.follow.Follow.feed.Goals.{in-Some-standing, in-None}

pub returns-in-Some-clause-begun : goal.returns-in-Some-clause-begun
returns-in-Some-clause-begun c = begins_itself c.args.names.now

pub returns-in-Some-clause-feeds : goal.returns-in-Some-clause-feeds
returns-in-Some-clause-feeds c =
    subst (λ (f : Followed). Feeds c.args.names.now f c.args.piece.now f (Err c.in-Some.fault)) c.self.view_is (feeds_behind_fault c.places.ensures.spelled c.places.ensures.passed c.more_bytes.ensures.spelled c.more_bytes.ensures.passed c.more_bytes.ensures.faulty
    c.args.names.now _ c.args.piece.now c.in-Some.fault c.in-Some.ensures.0 c.in-Some.ensures.1)

pub returns-after-standing-2-clause-feeds : goal.returns-after-standing-2-clause-feeds
returns-after-standing-2-clause-feeds c =
    let old : Followed = record { keyed = c.self.inside.keyed; ready = c.self.inside.ready.events.items; passed_over = c.self.inside.ready.passed; outcome = c.self.inside.outcome; passed = c.self.inside.passed; held = c.self.inside.held.items; row = c.self.inside.rest.row } in
    let cut = c.in-Ok.ensures.cut in
    let t = taken_in c.places.ensures.spelled c.places.ensures.passed c.more_bytes.ensures.spelled c.more_bytes.ensures.passed
    c.take_in.new.names old c.args.piece.now c.in-Ok.read (gathered c.take_in.new.ready) c.take_in.new.held.items c.take_in.new.rest.row cut.0.0 c.in_default.ensures (omega arith) cut.0.1 cut.2 c.in-Ok.ensures.read in
    rw (← c.self.view_is) (elim c.match-standing-2.branch [
      | in-Some-standing w ↦ rw w.result-is (feeds_fault c.take_in.new.names old _ c.args.piece.now cut.0.0 w.in-Some-standing.fault w.in-Some-standing.ensures.0 w.in-Some-standing.ensures.1 t)
      | in-None w ↦ rw w.result-is (feeds_ok c.take_in.new.names old _ c.args.piece.now cut.0.0 _ w.in-None.ensures
          (ap (λ k. k - c.len-before.result) (w.len-in-None.ensures ∙ c.take_in.new.ready.events.ok.0)
          ∙ ap (λ k. length c.take_in.new.ready.events.items - k) (c.len-before.ensures ∙ c.self.inside.ready.events.ok.0)) t)
    ])
