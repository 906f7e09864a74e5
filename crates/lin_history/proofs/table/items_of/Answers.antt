use Rattle.std.proofs.Common.{◌≡◌, Some, option_map, get_or, sym, ap, subst, ◌∙◌, true≢false}
use Rattle.std.specs.Option.{is_some}
use Rattle.lin_edn.specs.View.{view}
use Rattle.lin_names.specs.Spelled.{numbered, seen}
use Rattle.lin_names.specs.Names.{AgreesWith, Begins}
use Rattle.lin_names.specs.lemmas.Begins.{agrees_before, begins_itself, begins_on}
use Rattle.lin_history.specs.Table.{said_of, bare}
use Rattle.lin_history.proofs.Collections.{item_start, item_more, item_none, item_all}
use Rattle.lin_history.proofs.table.items_of.Goals as goal
use Rattle.lin_history.proofs.table.items_of.Goals.{in-Some+in_ok-numbered+in_ok-push, in_default}

read : (c : goal.Joined-said_in) → option_map seen c.said_in.result ≡ said_of (bare (view (get_or c.args.elements.now c.loop-element.element-index c.element-item.result)))
read c = c.said_in.ensures ∙ ap said_of (c.bare.ensures ∙ ap (λ e. bare (view e)) c.element-item.is)

pub loop-element-init : goal.loop-element-init
loop-element-init c = (begins_itself c.args.names.now, λ m agrees. item_start c.in_ok-found.found.items _ c.in_ok-found.ensures.items)

pub loop-element-preserved : goal.loop-element-preserved
loop-element-preserved c =
    elim c.match-said_in.branch [
      | in-Some+in_ok-numbered+in_ok-push w ↦
          let names = w.numbered.new.names in
          let begun = w.in_ok-numbered.ensures.begun in (
            subst (λ ns. Begins c.args.names.now ns) (sym w.names-is) (begins_on c.args.names.now c.loop-element.names names c.loop-element.invariant.0 begun),
            λ m agrees.
                let agree = subst (λ ns. AgreesWith ns m.number) w.names-is agrees in
                item_more m _ c.args.elements.now c.loop-element.element-index c.element-item.result c.loop-element.found.items c.match-said_in.found.items
                w.in_ok-numbered.field-0 c.loop-element-test.true
                (ap (option_map (numbered m.number)) (sym (read c) ∙ ap (option_map seen) w.in-Some.is) ∙ ap Some (sym (w.in_ok-numbered.ensures.item m.number agree)))
                (ap (λ v. v.items) w.found-is ∙ w.in_ok-push.ensures.items)
                (c.loop-element.invariant.1 m (agrees_before c.loop-element.names names m.number begun agree)),
          )
      | in_default w ↦ (
        subst (λ ns. Begins c.args.names.now ns) (sym w.names-is) c.loop-element.invariant.0,
        λ m agrees.
            let before = c.loop-element.invariant.1 m (subst (λ ns. AgreesWith ns m.number) w.names-is agrees) in
            let none = item_none m _ c.args.elements.now c.loop-element.element-index c.element-item.result c.loop-element.found.items
            c.loop-element-test.true (ap (option_map (numbered m.number)) (sym (read c) ∙ ap (option_map seen) w.in_default.is)) before in
            absurd (true≢false (sym (c.requires m) ∙ ap is_some none)),
      )
    ]

pub returns-in_err-numbered-clause-begun : goal.returns-in_err-numbered-clause-begun
returns-in_err-numbered-clause-begun c = begins_on c.args.names.now c.loop-element.names c.numbered.new.names c.loop-element.invariant.0 c.in_err-numbered.ensures.begun

pub returns-in_err-push-clause-begun : goal.returns-in_err-push-clause-begun
returns-in_err-push-clause-begun c = begins_on c.args.names.now c.loop-element.names c.numbered.new.names c.loop-element.invariant.0 c.in_ok-numbered.ensures.begun

pub returns-clause-items : goal.returns-clause-items
returns-clause-items c = λ m agrees. item_all m _ c.args.elements.now c.loop-element.element-index c.loop-element.found.items c.loop-element-test.false (c.loop-element.invariant.1 m agrees)
