use Rattle.std.proofs.Common.{◌≡◌, ◌≤◌, ◌-◌, ◌++◌, ℕ, List, Option, length, take}
use Rattle.lin_formats.specs.Devices.{device_of, failures_of}
use Rattle.lin_report.specs.inner.Engines.{IsUnderWay}
use Rattle.lin_report.specs.Runs.{RunState}
use Rattle.lin_report.proofs.runs.EditRun.take_in.Given as goal

abbrev pub invariant-lines : goal.invariant-lines
invariant-lines g l = record {
  within : l.from ≤ length l.piece;
  under_way : (start : RunState) (before : Option (List ℕ)) (bytes : List ℕ)
      → IsUnderWay l.keyed start before l.fn.self (g.R.Read.remaining (device_of l.fn.file)) (g.W.Write.contents (device_of l.fn.out)) bytes
      → IsUnderWay l.keyed start before l.self (g.R.Read.remaining (device_of l.file)) (g.W.Write.contents (device_of l.out)) (bytes ++ take l.from l.piece);
  reads : failures_of l.file ≡ failures_of l.fn.file;
  writes : failures_of l.out ≡ failures_of l.fn.out;
}

abbrev pub decreases-lines : goal.decreases-lines
decreases-lines g l = length l.piece - l.from
