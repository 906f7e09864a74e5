use Rattle.std.proofs.Common.{get_or, ap, sym, subst, refl, inl, inr, Contains, ◌∙◌, ◌≡◌, ℕ, suc, List, Some, slice_get, arith}
use Rattle.std.proofs.lemmas.Bool.{cases_eq, cases_lt, false≢true}
use Rattle.std.proofs.lemmas.Option.{slice_get_within, get_or_from_slice_get}
use Rattle.lin_queues.specs.declared.members.QueueMember.{QueueMember}
use Rattle.lin_queues.specs.Members.{IsAtLeast, view_of}
use Rattle.lin_queues.proofs.Lists.{contains_from_get, get_from_contains, get_removed, get_remove_cases}
use Rattle.std.specs.List.{remove}
use Rattle.lin_queues.specs.Gains.{AreApart}
use Rattle.lin_queues.proofs.gathered.Gathered.drop_worse.Goals as goal

removed_in : (xs : List QueueMember) (i : ℕ) (m : QueueMember) → Contains (remove xs i) m → Contains xs m
removed_in xs i m there =
    let place = get_from_contains (remove xs i) m there in
    elim (get_remove_cases xs i place.0 m place.1) [
      | inl before ↦ contains_from_get xs place.0 m before.1
      | inr after ↦ contains_from_get xs (suc place.0) m after.1
    ]

apart_without : (xs : List QueueMember) (i : ℕ) → AreApart xs → AreApart (remove xs i)
apart_without xs i apart j k m n at_j at_k differ least = elim (get_remove_cases xs i j m at_j) [
  | inl before ↦ elim (get_remove_cases xs i k n at_k) [
    | inl first ↦ apart j k m n before.1 first.1 differ least
    | inr later ↦ apart j (suc k) m n before.1 later.1 (λ e. (let a = before.0 in let b = later.0 in omega (arith, e))) least
  ]
  | inr after ↦ elim (get_remove_cases xs i k n at_k) [
    | inl first ↦ apart (suc j) k m n after.1 first.1 (λ e. (let a = after.0 in let b = first.0 in omega (arith, e))) least
    | inr later ↦ apart (suc j) (suc k) m n after.1 later.1 (λ e. differ (omega (arith, e))) least
  ]
]

pub loop-at-preserved-then-is_at_least : goal.loop-at-preserved-then-is_at_least
loop-at-preserved-then-is_at_least c = record {
  members = λ m there. elim (c.loop-at.invariant.members m there) [
    | inr worse ↦ inr worse
    | inl still ↦
        let place = get_from_contains c.loop-at.self.members.items m still in
        elim (cases_eq place.0 c.loop-at.at) [
          | inr differ ↦ (
              let left = get_removed c.loop-at.self.members.items c.loop-at.at place.0 m differ place.1 in
              inl (subst (λ l. Contains l m) (sym c.remove.ensures.items) (contains_from_get _ left.0 m left.1)))
          | inl same ↦ (
              let is = c.index.ensures ∙ ap (λ k. get_or c.loop-at.self.members.items k c.index.result.now) (sym same) ∙ get_or_from_slice_get c.loop-at.self.members.items place.0 m c.index.result.now place.1 in
              inr (subst (λ (x : QueueMember). IsAtLeast (view_of c.args.member.now) (view_of x)) is (c.if-is_at_least.ensures.0 refl)))
        ]
  ];
  left = λ m there.
      let was = c.loop-at.invariant.left m (removed_in c.loop-at.self.members.items c.loop-at.at m (subst (λ l. Contains l m) c.remove.ensures.items there)) in was;
  apart = λ apart. subst AreApart (sym c.remove.ensures.items) (apart_without c.loop-at.self.members.items c.loop-at.at (c.loop-at.invariant.apart apart));
  passed = λ k m before at.
      elim (get_remove_cases c.loop-at.self.members.items c.loop-at.at k m (subst (λ l. slice_get l k ≡ Some m) c.remove.ensures.items at)) [
        | inl first ↦ c.loop-at.invariant.passed k m before first.1
        | inr later ↦ (let l = later.0 in absurd (omega arith))
      ];
  full = c.loop-at.invariant.full;
  dequeues = c.loop-at.invariant.dequeues;
}

pub loop-at-preserved : goal.loop-at-preserved
loop-at-preserved c = record {
  members = c.loop-at.invariant.members;
  left = c.loop-at.invariant.left;
  apart = c.loop-at.invariant.apart;
  passed = λ k m before at least. elim (cases_lt k c.loop-at.at) [
    | inl earlier ↦ c.loop-at.invariant.passed k m earlier at least
    | inr later ↦
        let same : k ≡ c.loop-at.at = omega arith in
        let is = c.index.ensures ∙ ap (λ i. get_or c.loop-at.self.members.items i c.index.result.now) (sym same) ∙ get_or_from_slice_get c.loop-at.self.members.items k m c.index.result.now at in
        false≢true (sym c.if-is_at_least.false ∙ c.is_at_least.ensures.1 (subst (λ (x : QueueMember). IsAtLeast (view_of c.args.member.now) (view_of x)) (sym is) least))
  ];
  full = c.loop-at.invariant.full;
  dequeues = c.loop-at.invariant.dequeues;
}

pub returns-clause-left : goal.returns-clause-left
returns-clause-left c = λ m there.
    let place = get_from_contains c.loop-at.self.members.items m there in
    let l = slice_get_within c.loop-at.self.members.items place.0 m place.1 in let last = c.loop-at-test.false in
    (c.loop-at.invariant.left m there, c.loop-at.invariant.passed place.0 m (omega arith) place.1)

pub returns-clause-apart : goal.returns-clause-apart
returns-clause-apart c = c.loop-at.invariant.apart
