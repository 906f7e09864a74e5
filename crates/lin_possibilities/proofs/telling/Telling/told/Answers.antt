use Rattle.std.proofs.Common.{◌∙◌, Contains, subst, sym}
use Rattle.lin_frontier.specs.lemmas.Trying.{take_all}
use Rattle.lin_possibilities.specs.inner.Telling.{IsTold}
use Rattle.lin_possibilities.proofs.Growing.{telling_next}
use Rattle.lin_possibilities.proofs.telling.Telling.told.Goals as goal

pub loop-member-preserved : goal.loop-member-preserved
loop-member-preserved g c =
    let told = subst (λ l. IsTold (g.O.SeqObject.step c.args.self.now.object.now) c.args.self.now.pending.now l c.member-item.result c.tell.new.out.items) c.deref.ensures.value c.in_ok-tell.ensures.told in
    record {
      telling = telling_next _ _ _ _ c.in_ok-observers.observers.items c.args.members.now c.args.nodes.now c.loop-member.member-index c.member-item.result c.loop-member.nodes c.tell.new.nodes c.loop-member.out.items c.tell.new.out.items c.loop-member-test.true c.member-item.is
          c.tell.ensures.grown c.in_ok-tell.ensures.added told c.loop-member.invariant.telling;
      steps = c.tell.ensures.steps ∙ c.loop-member.invariant.steps;
      scans = c.tell.ensures.scans ∙ c.loop-member.invariant.scans;
    }

pub returns-clause-grown : goal.returns-clause-grown
returns-clause-grown g c = c.loop-member.invariant.telling.nodes_grown

pub returns-clause-told : goal.returns-clause-told
returns-clause-told g c = (
  c.in_ok-observers.observers.items,
  c.in_ok-observers.ensures,
  λ m there. c.loop-member.invariant.telling.told m (subst (λ l. Contains l m) (sym (take_all c.loop-member.member-index c.args.members.now c.loop-member-test.false)) there),
)
