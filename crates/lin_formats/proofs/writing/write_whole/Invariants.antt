use Rattle.std.proofs.Common.{◌≡◌, ◌≤◌, ◌-◌, length, take}
use Rattle.std.specs.Io.KnownBytes.{Appends}
use Rattle.lin_formats.specs.Devices.{device_of, failures_of}
use Rattle.lin_formats.proofs.writing.write_whole.Given as goal

abbrev pub invariant-loop-at : goal.invariant-loop-at
invariant-loop-at g l = record {
  within : l.at ≤ length l.text;
  written : Appends (g.W.Write.contents (device_of l.fn.out)) (g.W.Write.contents (device_of l.out)) (take l.at l.text);
  uncounted : failures_of l.out ≡ failures_of l.fn.out;
}

abbrev pub decreases-loop-at : goal.decreases-loop-at
decreases-loop-at g l = length l.text - l.at
