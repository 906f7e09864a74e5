use Rattle.std.proofs.Common.{map}
use Rattle.std.proofs.lemmas.List.Sorted.{Contains-permutation, IsPermutation-map, IsPermutation-sym}
use Rattle.lin_compressed_frontier.proofs.Making.{made_more, made_all, made_if}
use Rattle.lin_compressed_frontier.proofs.compressed.absent_ones.Goals as goal

pub loop-member-preserved : goal.loop-member-preserved
loop-member-preserved g c = made_more _ _ c.args.members.now c.loop-member.member-index c.member-item.result (map (λ m. m.now) c.loop-member.out.items) (map (λ m. m.now) c.push_if.new.values.items) c.loop-member-test.true c.member-item.is
    (made_if (λ m. m.now) _ _ c.is_absent.result c.loop-member.out.items c.push_if.new.values.items (rw c.placed.ensures at c.is_absent.ensures) c.in_ok-push_if.ensures) c.loop-member.invariant

pub returns : goal.returns
returns g c =
    let before = map (λ m. m.now) c.loop-member.out.items in
    let all = made_all _ _ c.args.members.now c.loop-member.member-index before c.loop-member-test.false c.loop-member.invariant in
    let moved = IsPermutation-map (λ m. m.now) c.loop-member.out.items c.put_fewest_first.new.members.items c.put_fewest_first.ensures in
    let after = map (λ m. m.now) c.put_fewest_first.new.members.items in
    record {
      sound = λ y there. all.sound y (Contains-permutation after before y (IsPermutation-sym before after moved) there);
      complete = λ x there absent. Contains-permutation before after x moved (all.complete x there absent);
    }
