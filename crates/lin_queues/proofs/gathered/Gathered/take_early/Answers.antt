use Rattle.std.proofs.Common.{◌≡◌, get_or, subst, sym, ap, ◌∙◌, arith, inl, inr, length}
use Rattle.std.proofs.lemmas.Bool.{cases_lt}
use Rattle.std.proofs.lemmas.Option.{slice_get_within, get_or_from_slice_get, slice_get-get_or}
use Rattle.lin_events.specs.declared.calls.Call.TheVariants.{Read, Enqueue}
use Rattle.lin_queues.specs.declared.opens.OpenCall.{OpenCall}
use Rattle.lin_queues.specs.Gathering.{MayTakeEarly}
use Rattle.lin_queues.specs.Members.{view_of}
use Rattle.lin_queues.specs.Reaching.{TakesEarly}
use Rattle.lin_queues.specs.Opens.{AreDequeues}
use Rattle.lin_queues.proofs.Gaining.{gains_then}
use Rattle.lin_queues.proofs.gathered.Gathered.take_early.Goals as goal

pub loop-operation-preserved : goal.loop-operation-preserved
loop-operation-preserved c = record {
  told = λ h whole order k o before at call is_whole paying enqueues may. elim (cases_lt k c.loop-operation.operation-index) [
    | inl earlier ↦ c.in_ok-take_early_if.ensures.kept whole order (length h) c.args.elements.now (c.loop-operation.invariant.told h whole order k o earlier at call is_whole paying enqueues may)
    | inr later ↦
        let same : k ≡ c.loop-operation.operation-index = omega arith in
        let here = sym (ap (λ i. get_or c.args.open.now i (record { process = 0; place = 0; call = Read })) (sym same) ∙ get_or_from_slice_get c.args.open.now k o (record { process = 0; place = 0; call = Read }) at) in
        c.in_ok-take_early_if.ensures.told h whole order (subst (λ (p : OpenCall). p.call ≡ Enqueue c.args.returned.item) here call) is_whole (subst (λ l. AreDequeues h l.items) (sym c.loop-operation.invariant.dequeues) paying) enqueues
        (subst (λ (p : OpenCall). MayTakeEarly whole order (length h) c.args.elements.now (view_of c.args.member.now) c.args.returned.time p.place) here may)
  ];
  kept = λ whole order n all covered. c.in_ok-take_early_if.ensures.kept whole order n all (c.loop-operation.invariant.kept whole order n all covered);
  gains = gains_then c.args.self.now c.loop-operation.self c.take_early_if.new.self (TakesEarly c.args.elements.now c.args.open.now c.args.returned.item c.args.returned.time (view_of c.args.member.now)) c.loop-operation.invariant.dequeues c.loop-operation.invariant.gains (c.in_ok-take_early_if.ensures.gains c.args.open.now c.loop-operation.operation-index (slice_get-get_or c.args.open.now c.loop-operation.operation-index (record { process = 0; place = 0; call = Read }) c.loop-operation-test.true));
  dequeues = c.take_early_if.ensures.dequeues ∙ c.loop-operation.invariant.dequeues;
}

pub returns-clause-told : goal.returns-clause-told
returns-clause-told c = λ h whole order k o at call is_whole paying enqueues may.
    let l = slice_get_within c.args.open.now k o at in let g = c.loop-operation-test.false in
    c.loop-operation.invariant.told h whole order k o (omega arith) at call is_whole paying enqueues may
