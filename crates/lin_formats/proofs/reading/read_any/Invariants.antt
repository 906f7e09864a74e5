use Rattle.std.proofs.Common.{◌≡◌, ◌<◌, ◌≤◌, ◌^◌, ℕ, List, false, length}
use Rattle.lin_history.specs.Reading.{IsReading, Reading}
use Rattle.lin_history.specs.Sees.{is_fault}
use Rattle.lin_names.specs.Names.{Begins}
use Rattle.std.specs.Io.KnownBytes.{Consumes}
use Rattle.lin_formats.specs.Devices.{device_of, failures_of}
use Rattle.lin_formats.specs.Intakes.{IsFed}
use Rattle.lin_formats.specs.Places.{IsHeld, Marks, is_bad}
use Rattle.lin_formats.specs.Hints.{beginning}
use Rattle.lin_formats.proofs.reading.read_any.Given as goal

abbrev pub invariant-pieces : goal.invariant-pieces
invariant-pieces g l = record {
  bytes : List ℕ;
  begun : Begins l.fn.names l.names;
  consumed : Consumes (g.R.Read.remaining (device_of l.fn.file)) (g.R.Read.remaining (device_of l.file)) bytes;
  taken : IsFed l.names l.follow bytes l.events.items;
  going : 0 < length bytes → is_fault l.follow.outcome ≡ false;
  within : length bytes ≤ 2 ^ 40;
  keyed : l.follow.keyed ≡ l.fn.keyed;
  room : length l.piece ≡ 65536;
  counted : l.counter ≤ length bytes;
  first : l.first.items ≡ beginning bytes;
  marks : (m : Reading) → IsReading l.fn.keyed l.names m → Marks m l.places bytes;
  held : IsHeld l.places bytes;
  calm : is_bad l.places.stop ≡ false;
  keyed_places : l.places.keyed ≡ l.fn.keyed;
  uncounted : failures_of l.file ≡ failures_of l.fn.file;
}
