use Rattle.std.proofs.Common.{arith, subst, sym}
use Rattle.std.proofs.lemmas.Result.{on_ok_weaker}
use Rattle.lin_members.proofs.chains.Chains.place.Goals as goal
use Rattle.lin_members.specs.inner.Chains.{AreChained}
use Rattle.lin_members.specs.lemmas.Aheads.{place_ahead}
use Rattle.lin_members.proofs.Chaining.{each_many, placed}

pub returns-then-round-len : goal.returns-then-round-len
returns-then-round-len c rounds spelled =
    let s = c.args.self.now in
    placed s.links.items c.push.new.self.items s.ends.items rounds c.args.round c.args.placed c.index.result.now c.len-then-round-len.result (omega (arith, c.if-round-len.true, c.len.ensures, s.ends.ok.0)) c.index.ensures c.in_ok-push.ensures.items
    (omega (arith, c.len-then-round-len.ensures, c.push.new.self.ok.0)) spelled

pub returns : goal.returns
returns c = on_ok_weaker c.insert.result
    (λ inserted rounds spelled. subst (AreChained c.insert.new.self) (sym (place_ahead c.args.round c.args.placed rounds
    (let many = each_many c.args.self.now.links.items c.args.self.now.ends.items rounds spelled in omega (arith, c.if-round-len.false, c.len.ensures, c.args.self.now.ends.ok.0)))) (inserted rounds spelled))
    c.insert.ensures
