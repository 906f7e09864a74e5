use Rattle.std.proofs.Common.{◌≡◌, ◌<◌, ◌≤◌, ◌^◌, ℕ, List, false, length}
use Rattle.lin_names.specs.Names.{Begins}
use Rattle.lin_history.specs.Sees.{is_fault}
use Rattle.std.specs.Io.KnownBytes.{Consumes}
use Rattle.lin_formats.specs.Devices.{device_of, failures_of}
use Rattle.lin_formats.specs.Intakes.{IsFed}
use Rattle.lin_formats.proofs.inputs.read_stream.Given as goal

abbrev pub invariant-pieces : goal.invariant-pieces
invariant-pieces g l = record {
  bytes : List ℕ;
  consumed : Consumes (g.R.Read.remaining (device_of l.fn.file)) (g.R.Read.remaining (device_of l.file)) bytes;
  begun : Begins l.fn.names l.names;
  taken : IsFed l.names l.follow bytes l.events.items;
  going : 0 < length bytes → is_fault l.follow.outcome ≡ false;
  within : length bytes ≤ 2 ^ 40;
  keyed : l.follow.keyed ≡ l.fn.keyed;
  room : length l.piece ≡ 65536;
  counted : l.counter ≤ length bytes;
  uncounted : failures_of l.file ≡ failures_of l.fn.file;
}
