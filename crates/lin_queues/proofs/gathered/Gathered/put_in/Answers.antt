use Rattle.std.proofs.Common.{◌∷◌, [], sym, subst, refl, inl, inr, ◌++◌, List, ap, ◌∙◌, Contains, arith}
use Rattle.std.proofs.lemmas.List.Elements.{Contains-push, Contains-push_cases, Contains-append_left}
use Rattle.lin_queues.specs.Members.{AreUnpaid, IsAtLeast, view_of}
use Rattle.lin_queues.proofs.Telling.{told_at_least}
use Rattle.std.proofs.lemmas.Bool.{false≢true, ltb-true}
use Rattle.lin_lists.specs.lemmas.Lists.{get_cases}
use Rattle.lin_queues.specs.declared.members.QueueMember.{QueueMember}
use Rattle.lin_queues.specs.Gains.{AreApart}
use Rattle.lin_queues.proofs.Lists.{contains_from_get}
use Rattle.lin_queues.proofs.Gaining.{gains_none}
use Rattle.lin_queues.proofs.gathered.Gathered.put_in.Goals as goal

apart_more : (xs : List QueueMember) (new : QueueMember) → AreApart xs → ((m : QueueMember) → Contains xs m → IsAtLeast (view_of m) (view_of new) → ⊥) → ((m : QueueMember) → Contains xs m → IsAtLeast (view_of new) (view_of m) → ⊥)
    → AreApart (xs ++ new ∷ [])
apart_more xs new apart not_better not_worse i j m n at_i at_j differ least = elim (get_cases xs new i m at_i) [
  | inl old ↦ elim (get_cases xs new j n at_j) [
    | inl other ↦ apart i j m n old other differ least
    | inr last ↦ not_better m (contains_from_get xs i m old) (subst (λ (x : QueueMember). IsAtLeast (view_of m) (view_of x)) (sym last.1) least)
  ]
  | inr last ↦ elim (get_cases xs new j n at_j) [
    | inl other ↦ not_worse n (contains_from_get xs j n other) (subst (λ (x : QueueMember). IsAtLeast (view_of x) (view_of n)) (sym last.1) least)
    | inr also ↦ differ (last.0 ∙ sym also.0)
  ]
]

pub returns-then-has_better-clause-told : goal.returns-then-has_better-clause-told
returns-then-has_better-clause-told c = λ whole order n all told.
    let better = c.if-has_better.ensures.better refl in
    inr (better.0, better.1, told_at_least whole order n all (view_of c.args.member) told c.debts_move.ensures.domination (view_of better.0) better.2)

pub returns-clause-told : goal.returns-clause-told
returns-clause-told c = λ whole order n all told.
    inr (c.args.member, subst (λ l. Contains l c.args.member) (sym c.in_ok-push.ensures.items) (Contains-push c.drop_worse.new.self.members.items c.args.member), told)

pub returns-clause-kept : goal.returns-clause-kept
returns-clause-kept c = λ whole order n all covered. elim covered [
  | inl full ↦ absurd (false≢true (sym c.requires ∙ full))
  | inr found ↦ elim (c.drop_worse.ensures.members found.0 found.1) [
    | inl still ↦ inr (found.0, subst (λ l. Contains l found.0) (sym c.in_ok-push.ensures.items) (Contains-append_left c.drop_worse.new.self.members.items (c.args.member ∷ []) found.0 still), found.2)
    | inr worse ↦ inr (
      c.args.member,
      subst (λ l. Contains l c.args.member) (sym c.in_ok-push.ensures.items) (Contains-push c.drop_worse.new.self.members.items c.args.member),
      told_at_least whole order n all (view_of found.0) found.2 c.debts_move.ensures.domination (view_of c.args.member) worse,
    )
  ]
]

pub returns-then-has_better-clause-gains : goal.returns-then-has_better-clause-gains
returns-then-has_better-clause-gains c = λ payable. gains_none _ _

pub returns-clause-gains : goal.returns-clause-gains
returns-clause-gains c = λ payable. record {
  each = λ m there. elim (Contains-push_cases c.drop_worse.new.self.members.items c.args.member m (subst (λ l. Contains l m) c.in_ok-push.ensures.items there)) [
    | inl old ↦ inl (c.drop_worse.ensures.left m old).0
    | inr new ↦ inr (ap view_of (sym new), subst (λ (x : QueueMember). AreUnpaid x.debts.items c.args.self.now.dequeues.items → ⊥) new payable)
  ];
  apart = λ apart. subst AreApart (sym c.in_ok-push.ensures.items) (apart_more c.drop_worse.new.self.members.items c.args.member (c.drop_worse.ensures.apart apart)
      (λ m there least. c.if-has_better.ensures.none refl m (c.drop_worse.ensures.left m there).0 least)
      (λ m there least. (c.drop_worse.ensures.left m there).1 least));
  full = λ was is. (let e = c.len.ensures in let v = c.push.new.self.ok.0 in let l = ltb-true _ _ is in omega arith);
}
