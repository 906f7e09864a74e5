use Rattle.std.proofs.Common.{subst, sym, ◌∙◌, length, inl, inr, Contains}
use Rattle.std.proofs.lemmas.Bool.{false≢true}
use Rattle.lin_order.specs.ConfigurationLaws.{with_event}
use Rattle.lin_queues.specs.Members.{view_of}
use Rattle.lin_queues.specs.Opens.{AreDequeues}
use Rattle.lin_queues.proofs.Lists.{on_ok, on_ok_both}
use Rattle.lin_queues.proofs.AfterOk.{put_early, put_either}
use Rattle.lin_queues.proofs.Gaining.{gains_as, gains_then}
use Rattle.lin_queues.specs.Reaching.{PutsIn, was_early, behind, alone}
use Rattle.lin_queues.proofs.gathered.Gathered.put.Goals as goal

pub returns-then-is_in-clause-told : goal.returns-then-is_in-clause-told
returns-then-is_in-clause-told c = on_ok c.put_early.result (λ told' functions h event reply whole order before new is last named now returning paying ended told.
    told' (with_event h event) whole order returning.is_whole paying returning.enqueues
    (put_early functions h event c.args.place whole order c.args.time now (view_of c.args.member.now) c.debts_after_ok.ensures.enqueued c.args.elements.now before new is c.args.at last named reply returning ended told
    (subst (λ l. Contains l c.args.place) c.as_slice.ensures.value (c.is_in.ensures.0 c.if-is_in.true))))
    c.put_early.ensures.told

pub returns-clause-told : goal.returns-clause-told
returns-clause-told c = on_ok_both c.push_same.result (λ told' kept functions h event reply whole order before new is last named now returning paying ended told.
    let either = put_either functions h event c.args.place whole order c.args.time now (view_of c.args.member.now) c.debts_after_ok.ensures.enqueued c.args.elements.now before new is c.args.at last named reply returning ended told
    (λ c'. false≢true (sym c.if-is_in.false ∙ c.is_in.ensures.1 (subst (λ l. Contains l c.args.place) (sym c.as_slice.ensures.value) c'))) in
    elim either [
      | inl same ↦ told' (with_event h event) whole order c.args.elements.now returning.is_whole (subst (λ l. AreDequeues (with_event h event) l.items) (sym c.push_emptied.ensures.dequeues) paying) same
      | inr both ↦ kept whole order (length (with_event h event)) c.args.elements.now
          (c.in_ok-push_emptied.ensures.told (with_event h event) whole order returning.is_whole paying returning.enqueues both.0 both.1)
    ])
    c.push_same.ensures.told c.push_same.ensures.kept

pub returns-clause-kept : goal.returns-clause-kept
returns-clause-kept c = on_ok c.push_same.result (λ kept whole order n all covered. kept whole order n all (c.in_ok-push_emptied.ensures.kept whole order n all covered)) c.push_same.ensures.kept

pub returns-then-is_in-clause-gains : goal.returns-then-is_in-clause-gains
returns-then-is_in-clause-gains c = on_ok c.put_early.result (λ gains. gains_as _ _ _ (PutsIn c.args.elements.now c.args.place c.args.at c.args.time (view_of c.args.member.now))
    (λ w sinks. was_early (subst (λ l. Contains l c.args.place) c.as_slice.ensures.value (c.is_in.ensures.0 c.if-is_in.true)) sinks) gains) c.put_early.ensures.gains

pub returns-clause-gains : goal.returns-clause-gains
returns-clause-gains c =
    on_ok c.push_same.result (λ gains. gains_then c.args.self.now c.push_emptied.new.self c.push_same.new.self _ c.push_emptied.ensures.dequeues
    (gains_as _ _ _ (PutsIn c.args.elements.now c.args.place c.args.at c.args.time (view_of c.args.member.now)) (λ w sinks. alone (λ there. false≢true (sym c.if-is_in.false ∙ c.is_in.ensures.1 (subst (λ l. Contains l c.args.place) (sym c.as_slice.ensures.value) there))) sinks) c.in_ok-push_emptied.ensures.gains)
    (gains_as _ _ _ (PutsIn c.args.elements.now c.args.place c.args.at c.args.time (view_of c.args.member.now)) (λ w same. behind (λ there. false≢true (sym c.if-is_in.false ∙ c.is_in.ensures.1 (subst (λ l. Contains l c.args.place) (sym c.as_slice.ensures.value) there))) same) gains)) c.push_same.ensures.gains
