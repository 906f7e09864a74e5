use Rattle.std.proofs.Common.{◌≡◌, get_or, not, option_map, refl, sym, ap, ◌∙◌}
use Rattle.std.specs.Option.{is_some}
use Rattle.lin_edn.specs.View.{view}
use Rattle.lin_names.specs.Spelled.{seen}
use Rattle.lin_history.specs.Table.{said_of, bare}
use Rattle.lin_history.proofs.Collections.{any_more, some_more, some_none, some_all}
use Rattle.lin_history.proofs.table.are_items.Goals as goal

pub loop-element-init : goal.loop-element-init
loop-element-init c = λ m. refl

pub loop-element-preserved : goal.loop-element-preserved
loop-element-preserved c = λ m.
    let read : option_map seen c.said_in.result ≡ said_of (bare (view (get_or c.args.elements.now c.loop-element.element-index c.element-item.result))) =
    c.said_in.ensures ∙ ap said_of (c.bare.ensures ∙ ap (λ e. bare (view e)) c.element-item.is) in
    some_more m _ c.args.elements.now c.loop-element.element-index c.element-item.result c.loop-element-test.true
    (ap is_some (sym read) ∙ any_more seen c.said_in.result ∙ c.is_none.ensures ∙ ap not c.if-is_none.false) (c.loop-element.invariant m)

pub returns-then-is_none : goal.returns-then-is_none
returns-then-is_none c = λ m.
    let read : option_map seen c.said_in.result ≡ said_of (bare (view (get_or c.args.elements.now c.loop-element.element-index c.element-item.result))) =
    c.said_in.ensures ∙ ap said_of (c.bare.ensures ∙ ap (λ e. bare (view e)) c.element-item.is) in
    sym (some_none m _ c.args.elements.now c.loop-element.element-index c.element-item.result c.loop-element-test.true
    (ap is_some (sym read) ∙ any_more seen c.said_in.result ∙ c.is_none.ensures ∙ ap not c.if-is_none.true) (c.loop-element.invariant m))

pub returns : goal.returns
returns c = λ m. sym (some_all m _ c.args.elements.now c.loop-element.element-index c.loop-element-test.false (c.loop-element.invariant m))
