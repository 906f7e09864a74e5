use Rattle.std.proofs.lemmas.List.Sorted.{Contains-permutation, IsPermutation-sym}
use Rattle.lin_members.proofs.domination.prune.Goals as goal

pub returns : goal.returns
returns g c =
    let before = c.args.members.items in
    let after = c.put_fewest_first.new.members.items in
    let found = c.pruned_in_order.ensures in
    record {
      from = λ m there. Contains-permutation after before m (IsPermutation-sym before after c.put_fewest_first.ensures) (found.from m there);
      covered = λ m there. found.covered m (Contains-permutation before after m c.put_fewest_first.ensures there);
      apart = found.apart;
    }
