use Rattle.std.proofs.Common.{◌-◌, arith}
use Rattle.lin_tables.specs.WindowOperations.{IsFailing}
use Rattle.lin_tables.proofs.Passing.{none_fewer}
use Rattle.lin_tables.specs.lemmas.Standing.{failing_invoked, failing_within}
use Rattle.lin_tables.proofs.failing_operations.failing_operation.Goals as goal

pub loop-at-init : goal.loop-at-init
loop-at-init c = λ k past is. let within = failing_within c.args.events.now k is in omega (arith, past, within)

pub loop-at-preserved : goal.loop-at-preserved
loop-at-preserved c =
    none_fewer (IsFailing c.args.events.now) (c.loop-at.at - 1) (λ k past is. c.loop-at.invariant k (omega arith) is)
    (λ is. let yes' = c.is_failing.ensures.1 is in let no' = c.if-is_failing.false in cc)

pub returns-then-is_failing-clause-begins : goal.returns-then-is_failing-clause-begins
returns-then-is_failing-clause-begins c = failing_invoked c.args.events.now (c.loop-at.at - 1) (c.is_failing.ensures.0 c.if-is_failing.true)

pub returns-clause-failing : goal.returns-clause-failing
returns-clause-failing c = λ at is. c.loop-at.invariant at (omega arith) is
