use Rattle.std.proofs.Common.{◌↔◌, IsTrue, sym, subst, ap, ◌∙◌}
use Rattle.lin_order.specs.Refutations.{IsRefutation, lists_of, sets_of}
use Rattle.lin_order.specs.inner.Checking.{IsCarried, IsFramed}
use Rattle.lin_order.specs.lemmas.Lists.{no_since, if_ok_weaker}
use Rattle.lin_order.proofs.Sets.{is_framed, is_carried, refuted, rising_to, many_lists}
use Rattle.lin_order.proofs.refutations.check_refutation.Goals as goal

pub returns-then-not-is_framed : goal.returns-then-not-is_framed
returns-then-not-is_framed c =
    let same = ap lists_of c.as_slice-sets.ensures.value in
    no_since (λ is.
    let yes' = c.is_framed.ensures.1 (subst (IsFramed c.args.events.now c.args.kind) (sym same) (is_framed c.args.events.now c.args.kind (sets_of c.args.refutation.now) is)) in
    let no' = c.if-not-is_framed.true in
    cc)

pub is_carried-requires-clause-count : goal.is_carried-requires-clause-count
is_carried-requires-clause-count c = let framed = c.is_framed.ensures.0 c.if-not-is_framed.false in sym (many_lists c.as_slice-sets.result.now) ∙ framed.count

pub is_carried-requires-clause-rising : goal.is_carried-requires-clause-rising
is_carried-requires-clause-rising c = let framed = c.is_framed.ensures.0 c.if-not-is_framed.false in rising_to c.as_slice-sets.result.now framed.rising

pub returns : goal.returns
returns c =
    let h = c.args.events.now in
    let kind = c.args.kind in
    let sets = lists_of c.as_slice-sets.result.now in
    let framed = c.is_framed.ensures.0 c.if-not-is_framed.false in
    let same = ap lists_of c.as_slice-sets.ensures.value in
    if_ok_weaker c.is_carried.result (λ b. IsTrue b ↔ IsCarried h kind sets) (λ b. IsTrue b ↔ IsRefutation h kind (sets_of c.args.refutation.now))
    (λ b iff. (
      λ yes'. subst (IsRefutation h kind) same (refuted h kind sets framed (iff.0 yes')),
      λ is. iff.1 (is_carried h kind sets (subst (IsRefutation h kind) (sym same) is)),
    )) c.is_carried.ensures
