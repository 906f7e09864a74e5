use Rattle.std.proofs.Common.{◌≡◌, ◌≢◌, List, [], ◌∷◌, Some, None, map, length, get_or, sym, ap, ◌∙◌, refl, arith}
use Rattle.lin_edn.specs.Value.{values_of}
use Rattle.lin_edn.specs.View.{view}
use Rattle.lin_edn.specs.declared.Edn.{Edn}
use Rattle.lin_history.specs.Table.{both_of, bare}
use Rattle.lin_history.proofs.table.both_of.Goals as goal

-- not exactly two
other : (es : List Edn) → length es ≢ 2 → both_of (values_of (map view es)) ≡ None
other [] h = refl
other (a ∷ []) h = refl
other (a ∷ b ∷ []) h = absurd (h refl)
other (a ∷ b ∷ e ∷ es) h = refl

-- exactly two
two : (es : List Edn) → length es ≡ 2 → (d e : Edn) → both_of (values_of (map view es)) ≡ Some (bare (view (get_or es 0 d)), bare (view (get_or es 1 e)))
two [] h d e = absurd (omega arith)
two (a ∷ []) h d e = absurd (omega arith)
two (a ∷ b ∷ []) h d e = refl
two (a ∷ b ∷ f ∷ es) h d e = absurd (omega arith)

pub returns-then-elements-ne2 : goal.returns-then-elements-ne2
returns-then-elements-ne2 c = sym (other c.args.elements.now c.if-elements-ne2.true)

pub returns : goal.returns
returns c =
    let here = two c.args.elements.now c.if-elements-ne2.false c.index-elements-0.result c.index-elements-1.result in
    let first : view c.bare.result.now ≡ bare (view (get_or c.args.elements.now 0 c.index-elements-0.result)) =
    c.bare.ensures ∙ ap (λ e. bare (view e)) c.index-elements-0.is in
    let second : view c.bare-2.result.now ≡ bare (view (get_or c.args.elements.now 1 c.index-elements-1.result)) =
    c.bare-2.ensures ∙ ap (λ e. bare (view e)) c.index-elements-1.is in
    cc
