use Rattle.std.proofs.Common.{◌≡◌, ◌≤◌, ◌^◌, ℕ, List, length}
use Rattle.std.specs.Io.KnownBytes.{Consumes}
use Rattle.lin_formats.specs.Devices.{device_of, failures_of}
use Rattle.lin_report.specs.inner.Engines.{IsUnderWay}
use Rattle.lin_report.specs.Runs.{start_of}
use Rattle.lin_report.proofs.runs.EditRun.carry_out_all.Given as goal

abbrev pub invariant-pieces : goal.invariant-pieces
invariant-pieces g l = record {
  bytes : List ℕ;
  consumed : Consumes (g.C.Read.remaining (device_of l.fn.commands)) (g.C.Read.remaining (device_of l.commands)) bytes;
  under_way : IsUnderWay l.fn.settings.keyed (start_of l.fn.settings (g.R.Read.remaining (device_of l.fn.file))) (g.W.Write.contents (device_of l.fn.out)) l.self
      (g.R.Read.remaining (device_of l.file)) (g.W.Write.contents (device_of l.out)) bytes;
  passed : l.passed ≡ length bytes;
  within : length bytes ≤ 2 ^ 40;
  counted : l.counter ≤ length bytes;
  room : length l.piece ≡ 65536;
  file_reads : failures_of l.file ≡ failures_of l.fn.file;
  command_reads : failures_of l.commands ≡ failures_of l.fn.commands;
  writes : failures_of l.out ≡ failures_of l.fn.out;
}
