use Rattle.std.proofs.Common.{sym, subst, inl, inr, arith, length, Contains, ◌∙◌, ◌-◌, ◌+◌, ◌<◌, ◌≡◌, true≢false}
use Rattle.lin_members.specs.lemmas.Undominated.{IsPrunedFrom, from_end, from_dropped, from_kept_too, from_start, behind_too, rest_is, shorter}
use Rattle.lin_members.proofs.domination.pruned_in_order.Goals as goal

pub loop-at-init : goal.loop-at-init
loop-at-init g c = record {
  within = omega (arith, c.len-at.ensures);
  pruned = subst (λ n. IsPrunedFrom (g.O.SeqObject.observing c.args.object.now) c.args.pending.now c.args.members.items n c.args.members.items) (sym (c.len-at.ensures ∙ c.args.members.ok.0)) (from_end _ _ c.args.members.items);
}

pub loop-at-preserved-then-is_below : goal.loop-at-preserved-then-is_below
loop-at-preserved-then-is_below g c =
    let at = c.loop-at.at - 1 in
    let next : c.loop-at.at ≡ at + 1 = omega (arith, c.loop-at-test.true) in
    let found = (rw c.as_slice-members.ensures.value at c.is_below.ensures).0 c.if-is_below.true in
    let before = subst (λ n. IsPrunedFrom (g.O.SeqObject.observing c.args.object.now) c.args.pending.now c.args.members.items n c.loop-at.kept.items) next c.loop-at.invariant.pruned in
    let inside : at < length c.loop-at.kept.items = omega (arith, c.loop-at.invariant.within, c.loop-at-test.true) in
    record {
      within = shorter c.loop-at.kept.items c.take_out.new.members.items at inside c.take_out.ensures;
      pruned = from_dropped _ _ c.args.members.items c.loop-at.kept.items at c.index-members-at.result inside (rw c.as_slice-members.ensures.value at c.index-members-at.is) before found.0 (behind_too c.loop-at.kept.items (at + 1) found.1) found.2 c.take_out.new.members.items c.take_out.ensures;
    }

pub loop-at-preserved : goal.loop-at-preserved
loop-at-preserved g c =
    let at = c.loop-at.at - 1 in
    let next : c.loop-at.at ≡ at + 1 = omega (arith, c.loop-at-test.true) in
    let never = (rw c.as_slice-members.ensures.value at c.is_below.ensures).1 in
    let before = subst (λ n. IsPrunedFrom (g.O.SeqObject.observing c.args.object.now) c.args.pending.now c.args.members.items n c.loop-at.kept.items) next c.loop-at.invariant.pruned in
    record {
      within = omega (arith, c.loop-at.invariant.within);
      pruned = from_kept_too _ _ c.args.members.items c.loop-at.kept.items at c.index-members-at.result (omega (arith, c.loop-at.invariant.within, c.loop-at-test.true)) (rw c.as_slice-members.ensures.value at c.index-members-at.is) before
          (λ k there above. true≢false (sym (never (k, inl there, above)) ∙ c.if-is_below.false)) (λ k there above. true≢false (sym (never (k, inr (subst (λ l. Contains l k) (sym (rest_is c.loop-at.kept.items (at + 1))) there), above)) ∙ c.if-is_below.false));
    }

pub returns : goal.returns
returns g c =
    let none : c.loop-at.at ≡ 0 = omega (arith, c.loop-at-test.false) in
    from_start _ _ c.args.members.items c.loop-at.kept.items
    (subst (λ n. IsPrunedFrom (g.O.SeqObject.observing c.args.object.now) c.args.pending.now c.args.members.items n c.loop-at.kept.items) none c.loop-at.invariant.pruned)
