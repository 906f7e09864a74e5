use Rattle.std.proofs.Common.{◌+◌, ap, arith, length, length-append, refl, sym, subst, take, ◌∙◌}
use Rattle.lin_order.specs.Refutations.{AreConfigurations}
use Rattle.lin_chain.proofs.ExactSets.{AreAll, exact_configurations, ok_same, one_more_set}
use Rattle.lin_chain.proofs.refuting.Builder.take_in.Goals as goal

pub returns-in_ok-push-clause-next : goal.returns-in_ok-push-clause-next
returns-in_ok-push-clause-next c = λ is functions h well there built.
    let at = c.args.at in
    let exact = c.in_ok-taken.ensures.next is functions h well there built.exact in
    let pushed = c.in_ok-push.ensures.items in
    let longer = ap length pushed ∙ length-append c.args.self.now.sets.items _ in
    let set = exact_configurations c.take_in.new.self.object.kind (take (at + 1) h) _ _ exact.configurations in
    record {
      exact = exact;
      count = omega (arith, built.count);
      sets = one_more_set c.take_in.new.self.object.kind h (at + 1) c.args.self.now.sets.items c.push.new.self.items c.in_ok-set.set pushed built.count
          (subst (AreConfigurations c.take_in.new.self.object.kind (take (at + 1) h)) (sym c.in_ok-set.ensures) set)
          (subst (λ k. AreAll k h c.args.self.now.sets.items) (sym c.in_ok-taken.ensures.kind) built.sets);
    }

pub returns-in_default : goal.returns-in_default
returns-in_default c = record {
  kind = c.in_ok-taken.ensures.kind;
  next = λ is. absurd (c.in_default.not-Next (ok_same refl refl is));
  empty = λ is functions h well there built. c.in_ok-taken.ensures.empty is functions h well there built.exact;
  over = λ is functions h well there built. c.in_ok-taken.ensures.over is functions h well there built.exact;
  steps = c.in_ok-taken.ensures.steps;
  scans = c.in_ok-taken.ensures.scans;
}
