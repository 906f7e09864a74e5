use Rattle.std.proofs.Common.{◌≡◌, ◌-◌, Some, length, slice_get, refl, arith, ap, ◌∙◌}
use Rattle.std.proofs.lemmas.Option.{slice_get_read}
use Rattle.lin_session.specs.Objects.{split_in}
use Rattle.lin_session.proofs.kept.Objects.forget_split.Goals as goal

pub loop-self-preserved : goal.loop-self-preserved
loop-self-preserved c =
    let events = c.args.events.now in
    let at : split_in c.unsplit_last.new.self ≡ c.loop-self.self.split - 1 = omega (arith, c.unsplit_last.ensures.split) in
    let stands : slice_get events (split_in c.unsplit_last.new.self) ≡ Some c.index-events-self.result =
    ap (slice_get events) at ∙ slice_get_read events (length events) (c.loop-self.self.split - 1) c.index-events-self.result refl (omega (arith, c.loop-self.invariant.within, c.loop-self-test.true)) c.index-events-self.is in
    record {
      within = omega (arith, c.unsplit_last.ensures.split, c.loop-self.invariant.within);
      least = omega (arith, c.unsplit_last.ensures.split, c.loop-self.invariant.least, c.loop-self-test.true);
      right = λ kinds budget kept. c.unsplit_last.ensures.right kinds budget events stands (c.loop-self.invariant.right kinds budget kept);
      marks = λ key. c.unsplit_last.ensures.marks key ∙ c.loop-self.invariant.marks key;
    }
