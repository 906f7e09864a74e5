use Rattle.std.proofs.Common.{◌≡◌, ap, arith}
use Rattle.std.proofs.lemmas.List.Elements.{All-contains}
use Rattle.lin_members.specs.declared.members.Path.{Path}
use Rattle.lin_frontier.specs.lemmas.Each.{all_more, all_end}
use Rattle.lin_compressed_frontier.proofs.within.are_alone.Goals as goal

pub loop-member-preserved : goal.loop-member-preserved
loop-member-preserved g c =
    let same = ap (λ (p : Path). p.until) c.path.ensures in
    let none = c.if-path-gt0.false in
    all_more c.args.members.now c.loop-member.member-index c.member-item.result c.loop-member-test.true c.member-item.is (λ m. m.1.until ≡ 0) c.loop-member.invariant (omega (arith, same, none))

pub returns : goal.returns
returns g c _ m there = All-contains (λ m. m.1.until ≡ 0) c.args.members.now m (all_end (λ m. m.1.until ≡ 0) c.args.members.now c.loop-member.member-index c.loop-member-test.false c.loop-member.invariant) there
