use Rattle.std.proofs.Common.{◌≡◌, ◌<◌, ◌++◌, [], Some, length, get_or, slice_get, drop, append-nil, inl, inr, sym, ap, subst, ◌∙◌, arith}
use Rattle.std.proofs.lemmas.Bool.{cases_order}
use Rattle.std.proofs.lemmas.List.{length-set}
use Rattle.std.proofs.lemmas.Option.{same_Some, slice_get-get_or}
use Rattle.lin_lists.specs.lemmas.Lists.{get_set_cases, get_taken}
use Rattle.lin_lists.specs.lemmas.Taken.{get_ahead}
use Rattle.lin_session.specs.declared.kept.Object.{Object}
use Rattle.lin_session.specs.inner.Objects.{IsRaisedObject}
use Rattle.lin_session.proofs.object.raise_all.Goals as goal

pub loop-object-preserved : goal.loop-object-preserved
loop-object-preserved c =
    let items = c.loop-object.object-items in
    let i = c.loop-object.object-index in
    let all = c.args.objects.now.items in
    let inv = c.loop-object.invariant in
    let new = c.raise.new.self in
    let inside : i < length items = omega (arith, c.loop-object-test.true, c.loop-object.auto.object-items) in
    let x : Object = get_or items i c.object-item.result in
    let x_at : slice_get items i ≡ Some x = slice_get-get_or items i c.object-item.result inside in
    record {
      long = length-set items i new ∙ inv.long;
      done = λ j old n below old_at n_at. elim (get_set_cases items i new j n n_at) [
        | inl here ↦
            let same : x ≡ old = same_Some x old (sym (inv.rest i x (omega arith) x_at) ∙ ap (slice_get all) (sym here.0) ∙ old_at) in
            subst (λ o. IsRaisedObject c.args.budget o n) same (subst (IsRaisedObject c.args.budget x) here.1 c.raise.ensures)
        | inr there ↦ elim (cases_order j i) [
          | inl equal ↦ absurd (there.0 equal)
          | inr order ↦ elim order [ inl before ↦ inv.done j old n before old_at there.1 | inr behind ↦ absurd (omega (arith, behind, below)) ]
        ]
      ];
      rest = λ j o above o_at. elim (get_set_cases items i new j o o_at) [ inl here ↦ absurd (omega (arith, above, here.0)) | inr there ↦ inv.rest j o (omega (arith, above)) there.1 ];
    }

pub returns-clause-each : goal.returns-clause-each
returns-clause-each c = λ i old new old_at new_at.
    let items = c.loop-object.object-items in
    let behind = drop (length items) c.args.objects.now.items in
    let got = get_taken c.args.objects.now.len (items ++ behind) i new new_at in
    let within : i < length items = omega (arith, got.0, c.args.objects.now.ok.0, c.loop-object.invariant.long) in
    let there : slice_get items i ≡ Some new = ap (λ l. slice_get l i) (sym (append-nil items)) ∙ get_ahead items [] behind i within ∙ got.1 in
    c.loop-object.invariant.done i old new (omega (arith, within, c.loop-object-test.false, c.loop-object.auto.object-items)) old_at there
