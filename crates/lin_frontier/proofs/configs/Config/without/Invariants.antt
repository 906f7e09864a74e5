use Rattle.std.proofs.Common.{◌≡◌, take}
use Rattle.lin_frontier.specs.Placing.{without}
use Rattle.lin_frontier.proofs.configs.Config.without.Given as goal

abbrev pub invariant-loop-pair : goal.invariant-loop-pair
invariant-loop-pair g l = l.list ≡ without l.process (take l.pair-index l.self.1)
