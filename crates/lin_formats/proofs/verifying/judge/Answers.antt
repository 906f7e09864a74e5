use Rattle.std.proofs.Common.{ap}
use Rattle.lin_objects.specs.Kinds.{kind_of}
use Rattle.lin_formats.proofs.Judging.{judged_bad, judged_good}
use Rattle.lin_formats.proofs.verifying.judge.Goals as goal

pub settle-requires : goal.settle-requires
settle-requires c = c.new.ensures.right _ _

pub returns-in-Bad-clause-judged : goal.returns-in-Bad-clause-judged
returns-in-Bad-clause-judged c = judged_bad c.read_order.new.names c.args.kind _ c.args.events.now c.args.order.now c.in-Ok.order.items _ c.in-Bad.at c.in-Bad.cause
    (λ key. ap (λ kinds. kind_of kinds key) c.new-kinds.ensures) c.in-Ok.ensures.read c.in_ok-at.ensures.shape c.in-Bad.is

pub returns-then-branch-clause-judged : goal.returns-then-branch-clause-judged
returns-then-branch-clause-judged c = (judged_good c.read_order.new.names c.args.kind _ c.args.events.now c.args.order.now c.in-Ok.order.items _ _
    (λ key. ap (λ kinds. kind_of kinds key) c.new-kinds.ensures) c.in-Ok.ensures.read c.in_ok-at.ensures.shape c.in-Good.is (rw c.as_slice.ensures.value at c.in_ok-check_order-in-Good.ensures)).0 c.if-branch.true

pub returns-clause-judged : goal.returns-clause-judged
returns-clause-judged c = (judged_good c.read_order.new.names c.args.kind _ c.args.events.now c.args.order.now c.in-Ok.order.items _ _
    (λ key. ap (λ kinds. kind_of kinds key) c.new-kinds.ensures) c.in-Ok.ensures.read c.in_ok-at.ensures.shape c.in-Good.is (rw c.as_slice.ensures.value at c.in_ok-check_order-in-Good.ensures)).1 c.if-branch.false
