use Rattle.std.proofs.Common.{◌≡◌, take}
use Rattle.lin_edn.specs.Skimming.{IsMoreOf}
use Rattle.lin_edn.specs.inner.Skimming.{HasGone}
use Rattle.lin_edn.proofs.skim.Skim.pass.Given as goal

abbrev pub invariant-loop-at : goal.invariant-loop-at
invariant-loop-at l = HasGone l.fn.self l.self (take l.at l.bytes) × (IsMoreOf l.fn.self l.bytes → l.self.part ≡ l.fn.self.part)
