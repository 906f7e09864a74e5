use Rattle.std.proofs.Common.{◌≡◌, map, take}
use Rattle.lin_members.specs.Settling.{renamed_pair}
use Rattle.lin_compressed_frontier.proofs.exchanges.put_renamed.Given as goal

abbrev pub invariant-loop-pair : goal.invariant-loop-pair
invariant-loop-pair l = l.list ≡ map (renamed_pair l.process l.other) (take l.pair-index l.pairs)
