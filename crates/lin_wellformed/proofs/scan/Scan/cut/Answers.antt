use Rattle.std.proofs.Common.{arith}
use Rattle.lin_wellformed.proofs.ScanLemmas.{right_alike, right_fewer, right_behind}
use Rattle.lin_wellformed.proofs.scan.Scan.cut.Goals as goal

pub returns-then-self-at-clause-right : goal.returns-then-self-at-clause-right
returns-then-self-at-clause-right c = λ kinds other h edited right agree. right_alike c.bad_positions.ensures.functions c.args.at kinds other h edited c.args.self.now c.if-self-at.true agree right

pub returns-then-at-count-clause-right : goal.returns-then-at-count-clause-right
returns-then-at-count-clause-right c = λ kinds other h edited right agree.
    let laws = c.bad_positions.ensures in
    let fewer = right_fewer laws.beginnings kinds h c.args.self.now c.args.at c.cut.new.self right (omega arith) c.cut.ensures in
    right_alike laws.functions c.args.at kinds other h edited _ (omega arith) agree fewer

pub returns-else-at-count-clause-right : goal.returns-else-at-count-clause-right
returns-else-at-count-clause-right c = λ kinds other h edited right agree.
    let laws = c.bad_positions.ensures in
    let behind = right_behind laws.beginnings kinds h c.args.self.now c.args.at right (omega arith) (omega arith) in
    right_alike laws.functions c.args.at kinds other h edited _ (omega arith) agree behind
