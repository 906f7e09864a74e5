use Rattle.std.proofs.Common.{ap, sym, arith, length, get_or, ◌∙◌, ◌≡◌, inl, inr, subst}
use Rattle.std.proofs.lemmas.Bool.{cases_lt, false≢true}
use Rattle.std.proofs.lemmas.Option.{slice_get_within, get_or_from_slice_get}
use Rattle.lin_queues.specs.declared.members.QueueMember.{QueueMember}
use Rattle.lin_queues.specs.Members.{IsAtLeast, view_of}
use Rattle.lin_queues.proofs.Lists.{get_from_contains}
use Rattle.lin_queues.proofs.gathered.Gathered.has_better.Goals as goal

pub returns-then-is_at_least-clause-better : goal.returns-then-is_at_least-clause-better
returns-then-is_at_least-clause-better c = λ yes'. (
  c.other-item.result,
  (
    c.loop-other.other-index,
    (let l = c.loop-other-test.true in let e = ap length c.deref-other-items.ensures.value in omega arith),
    ap (λ l. get_or l c.loop-other.other-index c.other-item.result) (sym c.deref-other-items.ensures.value) ∙ sym c.other-item.is,
  ),
  c.if-is_at_least.ensures.0 yes',
)

pub loop-other-preserved : goal.loop-other-preserved
loop-other-preserved c = λ k m before at least. elim (cases_lt k c.loop-other.other-index) [
  | inl earlier ↦ c.loop-other.invariant k m earlier at least
  | inr later ↦
      let same : k ≡ c.loop-other.other-index = omega arith in
      let here = c.other-item.is ∙ ap (λ l. get_or l c.loop-other.other-index c.other-item.result) c.deref-other-items.ensures.value ∙ ap (λ i. get_or c.args.self.now.members.items i c.other-item.result) (sym same) ∙ get_or_from_slice_get c.args.self.now.members.items k m c.other-item.result at in
      false≢true (sym c.if-is_at_least.false ∙ c.is_at_least.ensures.1 (subst (λ (x : QueueMember). IsAtLeast (view_of x) (view_of c.args.member.now)) (sym here) least))
]

pub returns-clause-none : goal.returns-clause-none
returns-clause-none c = λ no m there least.
    let place = get_from_contains c.args.self.now.members.items m there in
    let l = slice_get_within c.args.self.now.members.items place.0 m place.1 in let e = ap length c.deref-other-items.ensures.value in let last = c.loop-other-test.false in
    c.loop-other.invariant place.0 m (omega arith) place.1 least
