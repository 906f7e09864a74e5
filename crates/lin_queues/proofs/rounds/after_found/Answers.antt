use Rattle.std.proofs.Common.{◌≡◌, Some, get_or, subst, sym, ap, ◌∙◌, arith, inl, inr, length}
use Rattle.std.proofs.lemmas.Bool.{cases_lt}
use Rattle.std.proofs.lemmas.Option.{slice_get_within, get_or_from_slice_get, slice_get-get_or}
use Rattle.lin_order.specs.ConfigurationLaws.{with_event}
use Rattle.lin_queues.specs.declared.members.QueueMember.{QueueMember}
use Rattle.lin_queues.specs.Members.{Told, view_of}
use Rattle.lin_queues.specs.Opens.{AreDequeues}
use Rattle.lin_queues.proofs.Lists.{contains_from_get, get_from_contains}
use Rattle.lin_queues.proofs.Gaining.{gathered_more, gathered_none}
use Rattle.lin_queues.specs.Reaching.{Finds}
use Rattle.lin_queues.proofs.rounds.after_found.Goals as goal

pub loop-member-preserved : goal.loop-member-preserved
loop-member-preserved c = record {
  gathered =
      let at = slice_get-get_or c.args.members.now c.loop-member.member-index c.member-item.result c.loop-member-test.true in
      gathered_more c.args.members.now c.args.open.now c.loop-member.next c.find.new.self (Finds c.args.elements.now c.args.open.now c.args.returned.dequeue c.args.returned.item c.args.returned.time) c.member-item.result
      (contains_from_get c.args.members.now c.loop-member.member-index c.member-item.result (at ∙ ap Some (sym c.member-item.is))) c.find.ensures.dequeues c.in_ok-find.ensures.gains c.loop-member.invariant.gathered;
  paying = λ h open'. subst (λ l. AreDequeues h l.items) (sym c.find.ensures.dequeues) (c.loop-member.invariant.paying h open');
  told = λ functions h event whole order now links ends open' returning k m before at told. elim (cases_lt k c.loop-member.member-index) [
    | inl earlier ↦ c.in_ok-find.ensures.kept whole order (length (with_event h event)) (c.args.elements.now) (c.loop-member.invariant.told functions h event whole order now links ends open' returning k m earlier at told)
    | inr later ↦
        let same : k ≡ c.loop-member.member-index = omega arith in
        let here = sym (c.member-item.is ∙ ap (λ i. get_or c.args.members.now i c.member-item.result) (sym same) ∙ get_or_from_slice_get c.args.members.now k m c.member-item.result at) in
        c.in_ok-find.ensures.told functions h event whole order now links ends open' returning (c.loop-member.invariant.paying (with_event h event) open') (subst (λ (x : QueueMember). Told whole order (length h) c.args.elements.now (view_of x)) here told)
  ];
}

pub returns-clause-told : goal.returns-clause-told
returns-clause-told c = λ functions h event whole order now links ends open' returning found.
    let place = get_from_contains c.args.members.now found.0 found.1 in
    let l = slice_get_within c.args.members.now place.0 found.0 place.1 in
    let all = c.loop-member-test.false in
    c.loop-member.invariant.told functions h event whole order now links ends open' returning place.0 found.0 (omega arith) place.1 found.2

pub loop-member-init : goal.loop-member-init
loop-member-init c = record {
  gathered = gathered_none c.args.members.now c.args.open.now c.in_ok-next.next (Finds c.args.elements.now c.args.open.now c.args.returned.dequeue c.args.returned.item c.args.returned.time) c.in_ok-next.ensures.fresh.0 c.in_ok-next.ensures.fresh.1 c.in_ok-next.ensures.paying;
  paying = c.in_ok-next.ensures.paying;
  told = λ functions h event whole order now links ends open' returning k m before at told. absurd (omega arith);
}
