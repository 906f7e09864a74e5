use Rattle.std.proofs.Common.{subst}
use Rattle.lin_objects.specs.declared.kinds.Kind.TheVariants.{Set}
use Rattle.lin_order.specs.Linearizable.{IsLinearizableAs}
use Rattle.lin_order.specs.lemmas.Lists.{if_ok_weaker}
use Rattle.lin_sets.proofs.Next.{with_next, may_follow, next_told}
use Rattle.lin_sets.proofs.Same.{still, on_err_weaker}
use Rattle.lin_sets.proofs.intervals.Intervals.take_in.Goals as goal

pub returns-clause-goes_on : goal.returns-clause-goes_on
returns-clause-goes_on c = if_ok_weaker c.add_event.result _ _ (λ goes given so h next.
    next_told c.args.self.now h c.args.event.now next c.add_event.new.self (given so _ (may_follow c.args.self.now h c.args.event.now next) next.told)) c.add_event.ensures.goes_on

pub returns-clause-refuted : goal.returns-clause-refuted
returns-clause-refuted c = if_ok_weaker c.add_event.result _ _ (λ goes given so h next linearizable.
    let conflict = given so _ (may_follow c.args.self.now h c.args.event.now next) next.told in
    c.conflicts_refute.ensures _ conflict (subst (IsLinearizableAs Set) (with_next c.args.self.now h c.args.event.now next) linearizable)) c.add_event.ensures.conflict

pub returns-clause-stays : goal.returns-clause-stays
returns-clause-stays c = if_ok_weaker c.add_event.result _ _ (λ goes given so. still c.args.self.now c.add_event.new.self (given so)) c.add_event.ensures.stays

pub returns-clause-refused : goal.returns-clause-refused
returns-clause-refused c = on_err_weaker c.add_event.result _ _ (still c.args.self.now c.add_event.new.self) c.add_event.ensures.refused
