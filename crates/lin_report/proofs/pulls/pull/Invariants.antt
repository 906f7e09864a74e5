use Rattle.std.proofs.Common.{◌≡◌, ◌≤◌, Bool, ℕ, List, length}
use Rattle.std.specs.Io.KnownBytes.{Consumes}
use Rattle.lin_events.specs.declared.events.Event.{Event}
use Rattle.lin_formats.specs.Devices.{device_of, failures_of}
use Rattle.lin_report.specs.Pulls.{StandsAt}
use Rattle.lin_report.specs.Runs.{IsReadOn, RunState}
use Rattle.lin_report.proofs.Pulling.{HasPulled}
use Rattle.lin_report.proofs.pulls.pull.Given as goal

abbrev pub invariant-pieces : goal.invariant-pieces
invariant-pieces g l = record {
  part : List ℕ;
  entered : List Event;
  pulled : HasPulled l.fn.session.present l.session.present l.fn.names l.names l.fn.follow l.follow part entered;
  consumed : Consumes (g.R.Read.remaining (device_of l.fn.file)) (g.R.Read.remaining (device_of l.file)) part;
  read_on : (keyed : Bool) (before : RunState) → StandsAt keyed before l.fn.session.present l.fn.names l.fn.follow (g.R.Read.remaining (device_of l.fn.file))
      → IsReadOn keyed l.names before part;
  room : length l.piece ≡ 65536;
  counted : l.counter ≤ length part;
  uncounted : failures_of l.file ≡ failures_of l.fn.file;
}
