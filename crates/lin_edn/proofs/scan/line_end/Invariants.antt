use Rattle.std.proofs.Common.{◌≡◌, ℕ, ◌≤◌, ◌<◌, false, get_or}
use Rattle.lin_bytes.specs.Bytes.{is_newline}
use Rattle.lin_edn.proofs.scan.line_end.Given as goal

abbrev pub invariant-loop-at : goal.invariant-loop-at
invariant-loop-at l = (i : ℕ) → l.from ≤ i → i < l.at → is_newline (get_or l.input i 0) ≡ false
