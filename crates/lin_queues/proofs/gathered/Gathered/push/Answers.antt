use Rattle.std.proofs.Common.{subst, refl, inl, Result, Ok, Err, OnOk, length, sym}
use Rattle.lin_queues.specs.Members.{AreUnpaid, view_of}
use Rattle.lin_queues.proofs.Paying.{unpaid}
use Rattle.lin_queues.proofs.Gaining.{gains_none}
use Rattle.lin_queues.proofs.gathered.Gathered.push.Goals as goal
use Rattle.lin_queues.proofs.gathered.Gathered.push.Goals.{then-self-via-then-self, then-self-via-else-self+then-are_unpaid}

on_ok : {A E : Type 0} (r : Result A E) {P Q : Type 0} → (P → Q) → OnOk r P → OnOk r Q
on_ok (Ok a) f p = f p
on_ok (Err e) f p = p

pub returns-then-self-clause-told : goal.returns-then-self-clause-told
returns-then-self-clause-told c = λ h whole order all is_whole paying told. elim c.then-self.branch [
  | then-self-via-then-self w ↦ inl w.if-self.true
  | then-self-via-else-self+then-are_unpaid w ↦ absurd (unpaid c.debts_are_payable.ensures.payment h whole order is_whole c.args.self.now.dequeues.items paying all (view_of c.args.member) told
      (subst (λ l. AreUnpaid l c.args.self.now.dequeues.items) w.as_slice.ensures.value (subst (λ l. AreUnpaid w.as_slice.result.now l) w.as_slice-else-self.ensures.value (w.if-are_unpaid.ensures.unpaid refl))))
]

pub returns-clause-told : goal.returns-clause-told
returns-clause-told c = on_ok c.put_in.result (λ told h whole order all is_whole paying. told whole order (length h) all) c.put_in.ensures.told

pub returns-then-self-clause-gains : goal.returns-then-self-clause-gains
returns-then-self-clause-gains c = gains_none _ _

pub returns-clause-gains : goal.returns-clause-gains
returns-clause-gains c = on_ok c.put_in.result (λ gains. gains (λ unpaid. c.if-are_unpaid.ensures.paid refl
    (subst (λ l. AreUnpaid l c.as_slice-else-self.result.now) (sym c.as_slice.ensures.value) (subst (AreUnpaid c.args.member.debts.items) (sym c.as_slice-else-self.ensures.value) unpaid)))) c.put_in.ensures.gains
