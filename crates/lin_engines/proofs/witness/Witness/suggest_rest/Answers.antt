use Rattle.std.proofs.Common.{arith}
use Rattle.lin_engines.proofs.Growing.{same_order, longer_then}
use Rattle.lin_engines.proofs.Splits.{one_less}
use Rattle.lin_engines.proofs.witness.Witness.suggest_rest.Goals as goal

pub loop-self-preserved-in-Continue-1 : goal.loop-self-preserved-in-Continue-1
loop-self-preserved-in-Continue-1 c = longer_then c.args.self.now c.loop-self.self (record c.loop-self.self { order = c.pop.new.self; hint = c.push.new.self }) c.loop-self.invariant
    (same_order c.loop-self.self c.pop.new.self c.push.new.self (λ inside. one_less c.loop-self.self.order.items c.pop.new.self.items c.in-Some.placed c.loop-self.self.length c.in-Some.ensures.items (omega (arith, c.loop-self-test.true, c.len.ensures, c.loop-self.self.order.ok.0))))

pub returns-in_err-push : goal.returns-in_err-push
returns-in_err-push c = longer_then c.args.self.now c.loop-self.self (record c.loop-self.self { order = c.pop.new.self; hint = c.push.new.self }) c.loop-self.invariant
    (same_order c.loop-self.self c.pop.new.self c.push.new.self (λ inside. one_less c.loop-self.self.order.items c.pop.new.self.items c.in-Some.placed c.loop-self.self.length c.in-Some.ensures.items (omega (arith, c.loop-self-test.true, c.len.ensures, c.loop-self.self.order.ok.0))))
