use Rattle.std.proofs.Common.{[], Contains, length, sym, subst, ap, ◌∙◌}
use Rattle.std.proofs.lemmas.Bool.Decides.{Decides-eqb}
use Rattle.lin_objects.specs.Steps.{start}
use Rattle.lin_order.specs.lemmas.Lists.{no_since}
use Rattle.lin_order.proofs.Sets.{empty_if, first_read, framed_iff, not_ended}
use Rattle.lin_order.proofs.refutations.is_framed.Goals as goal

pub returns-then-not-begins : goal.returns-then-not-begins
returns-then-not-begins c =
    let v = c.index-sets-0.result in
    no_since (λ framed.
    let has = framed.begins v.items (first_read c.args.events.now c.args.sets.now c.if-sets-events.false v c.index-sets-0.is) in
    let yes' = c.begins.ensures.1 (subst (λ l. Contains l (start c.args.kind, [])) (sym c.as_slice.ensures.value) has) in
    let no' = c.if-not-begins.true in
    cc)

pub returns-then-not-is_empty : goal.returns-then-not-is_empty
returns-then-not-is_empty c =
    let v = c.index-sets-0.result in
    let w = c.index-sets-events.result in
    no_since (not_ended c.args.events.now c.args.kind c.args.sets.now c.if-sets-events.false v w c.index-sets-0.is c.index-sets-events.is (λ empty.
    let yes' = c.is_empty.ensures ∙ (Decides-eqb _ _).1 (w.ok.0 ∙ ap length empty) in
    let no' = c.if-not-is_empty.true in
    cc))

pub returns : goal.returns
returns c =
    let v = c.index-sets-0.result in
    let w = c.index-sets-events.result in
    framed_iff c.args.events.now c.args.kind c.args.sets.now c.if-sets-events.false v w c.index-sets-0.is c.index-sets-events.is
    (subst (λ l. Contains l (start c.args.kind, [])) c.as_slice.ensures.value (c.begins.ensures.0 c.if-not-begins.false))
    (empty_if w.items (sym w.ok.0 ∙ (Decides-eqb _ _).0 (sym c.is_empty.ensures ∙ c.if-not-is_empty.false)))
    c.all_rise.result c.all_rise.ensures
