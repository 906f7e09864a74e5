use Rattle.std.proofs.Common.{◌≡◌, ◌-◌, suc, ◌∙◌, arith, length}
use Rattle.lin_members.proofs.Chaining.{read_all, read_more, read_none}
use Rattle.lin_members.proofs.chains.Chains.join.Goals as goal

pub loop-round-init : goal.loop-round-init
loop-round-init c =
    let s = c.args.self.now in
    let all : c.len-round.result ≡ length s.ends.items = omega (arith, c.len-round.ensures, s.ends.ok.0) in
    (omega arith, λ rounds spelled. read_none s.links.items s.ends.items rounds c.in_ok-order.order.items c.len-round.result all c.in_ok-order.ensures.items spelled)

pub loop-round-preserved : goal.loop-round-preserved
loop-round-preserved c =
    let s = c.args.self.now in
    let was = c.loop-round.invariant in
    let next : c.loop-round.round ≡ suc (c.loop-round.round - 1) = omega (arith, c.loop-round-test.true) in (
      omega (arith, was.0),
      λ rounds spelled. read_more s.links.items s.ends.items rounds c.loop-round.order.items c.append.new.order.items c.loop-round.round (c.loop-round.round - 1) c.index.result.now next was.0 c.index.ensures spelled c.in_ok-append.ensures (was.1 rounds spelled),
    )

pub returns : goal.returns
returns c rounds spelled = c.reverse.ensures.items ∙ read_all rounds c.loop-round.order.items c.loop-round.round (omega (arith, c.loop-round-test.false)) (c.loop-round.invariant.1 rounds spelled)
