use Rattle.std.proofs.Common.{◌≡◌, subst, sym, ◌∙◌, arith, inl, inr, length}
use Rattle.std.proofs.lemmas.Bool.{cases_lt}
use Rattle.std.proofs.lemmas.Option.{slice_get_within}
use Rattle.lin_queues.specs.Gathering.{MayPay}
use Rattle.lin_queues.specs.Members.{view_of}
use Rattle.lin_queues.specs.Reaching.{Pays}
use Rattle.lin_queues.specs.Opens.{AreDequeues}
use Rattle.lin_queues.proofs.Gaining.{gains_then}
use Rattle.lin_queues.proofs.gathered.Gathered.pay.Goals as goal

pub loop-at-preserved : goal.loop-at-preserved
loop-at-preserved c = record {
  told = λ h whole order all at before is_whole paying may. elim (cases_lt at c.loop-at.at) [
    | inl earlier ↦ c.in_ok-pay_if.ensures.kept whole order (length h) all (c.loop-at.invariant.told h whole order all at earlier is_whole paying may)
    | inr later ↦
        let same : at ≡ c.loop-at.at = omega arith in
        c.in_ok-pay_if.ensures.told h whole order all is_whole (subst (λ l. AreDequeues h l.items) (sym c.loop-at.invariant.dequeues) paying)
        (subst (MayPay whole order (length h) all (view_of c.args.member.now) c.args.returned.dequeue c.args.returned.item) same may)
  ];
  kept = λ whole order n all covered. c.in_ok-pay_if.ensures.kept whole order n all (c.loop-at.invariant.kept whole order n all covered);
  gains = gains_then c.args.self.now c.loop-at.self c.pay_if.new.self (Pays c.args.returned.dequeue c.args.returned.item (view_of c.args.member.now)) c.loop-at.invariant.dequeues c.loop-at.invariant.gains c.in_ok-pay_if.ensures.gains;
  dequeues = c.pay_if.ensures.dequeues ∙ c.loop-at.invariant.dequeues;
}

pub returns-clause-told : goal.returns-clause-told
returns-clause-told c = λ h whole order all at is_whole paying may.
    let l = slice_get_within c.args.member.now.debts.items at may.debt may.stands in
    let e = c.args.member.now.debts.ok.0 in let f = c.len-at-end.ensures in let g = c.loop-at-test.false in
    c.loop-at.invariant.told h whole order all at (omega arith) is_whole paying may
