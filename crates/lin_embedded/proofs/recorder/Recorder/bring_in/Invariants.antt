use Rattle.std.proofs.Common.{◌≡◌, ◌-◌, length}
use Rattle.lin_formats.specs.Inputs.{limit}
use Rattle.lin_embedded.specs.inner.Waiting.{StillReads}
use Rattle.lin_embedded.proofs.recorder.Recorder.bring_in.Given as goal

abbrev pub invariant-events : goal.invariant-events
invariant-events l = record {
  reads : StillReads l.fn.self l.self;
  names : l.self.names ≡ l.fn.self.names;
}

abbrev pub decreases-events : goal.decreases-events
decreases-events l = limit - length l.self.session.present.history
