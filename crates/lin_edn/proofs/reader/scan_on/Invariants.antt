use Rattle.std.proofs.Common.{◌≡◌, ◌≤◌, drop, length, ◌-◌}
use Rattle.lin_edn.specs.Grammar.{longest}
use Rattle.lin_edn.specs.inner.Levels.{frames_of}
use Rattle.lin_edn.specs.inner.Machine.{run, between}
use Rattle.lin_edn.specs.inner.Turns.{mode_of, IsBegun}
use Rattle.lin_edn.proofs.reader.scan_on.Given as goal

abbrev pub invariant-loop-at : goal.invariant-loop-at
invariant-loop-at l =
    (run longest l.at (frames_of l.stack.items) (mode_of l.input l.at l.mode) (drop l.at l.input) ≡ run longest l.from (frames_of l.fn.stack.items) between (drop l.from l.input))
    × IsBegun l.mode l.at × (l.at ≤ length l.input)

abbrev pub decreases-loop-at : goal.decreases-loop-at
decreases-loop-at l = length l.input - l.at
