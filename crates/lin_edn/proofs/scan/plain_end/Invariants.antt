use Rattle.std.proofs.Common.{◌≡◌, ℕ, ◌≤◌, ◌<◌, false, get_or}
use Rattle.lin_edn.specs.Scans.{is_quoting}
use Rattle.lin_edn.proofs.scan.plain_end.Given as goal

abbrev pub invariant-loop-at : goal.invariant-loop-at
invariant-loop-at l = (i : ℕ) → l.from ≤ i → i < l.at → is_quoting (get_or l.input i 0) ≡ false
