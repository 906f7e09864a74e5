use Rattle.std.proofs.Common.{◌≡◌, drop}
use Rattle.lin_edn.specs.Run.{number_after}
use Rattle.lin_edn.proofs.run.number.Given as goal

abbrev pub invariant-loop-digit : goal.invariant-loop-digit
invariant-loop-digit l = number_after 0 l.digits ≡ number_after l.value (drop l.digit-index l.digits)
