use Rattle.std.proofs.Common.{◌≡◌, [], take, sym, ap, ◌∙◌, subst, arith}
use Rattle.std.proofs.lemmas.Grind.{common_steps}
use Rattle.std.proofs.lemmas.List.{append-nil}
use Rattle.lin_order.specs.ConfigurationLaws.{with_event}
use Rattle.lin_frontier.specs.Frontiers.{IsFrontier}
use Rattle.lin_frontier.specs.lemmas.Answered.{from_some, from_none}
use Rattle.lin_frontier.specs.lemmas.Closing.{cut_back}
use Rattle.lin_frontier.specs.lemmas.Completed.{none_legal}
use Rattle.lin_frontier.proofs.frontier.Frontier.advance_all.Goals as goal

pub returns-then-is_empty-clause-empty : goal.returns-then-is_empty-clause-empty
returns-then-is_empty-clause-empty g c is functions h next frontier legal =
    let known = subst (λ es. IsFrontier (g.O.SeqObject.starts c.args.object.now) (g.O.SeqObject.step c.args.object.now) h es c.args.nodes.now) (sym c.self.view_is) frontier in
    none_legal (g.O.SeqObject.starts c.args.object.now) (g.O.SeqObject.step c.args.object.now) functions (with_event h c.args.event.now) c.in-Ok-Some.configs.entries c.next_configs.new.nodes (c.is_empty.ensures.0 c.if-is_empty.true) c.legal_orders_end.ensures
    next.well_formed (from_some _ c.in-Ok-Some.field-0-is c.in-Ok-Some.ensures.next functions h next known) legal

pub returns-then-is_empty-clause-grown : goal.returns-then-is_empty-clause-grown
returns-then-is_empty-clause-grown g c = ([], (c.cut.ensures ∙ ap (λ n. take n c.next_configs.new.nodes) c.len-count.ensures) ∙ cut_back c.args.nodes.now c.next_configs.new.nodes c.next_configs.ensures.grown ∙ sym (append-nil c.args.nodes.now))

pub returns-else-is_empty-clause-next : goal.returns-else-is_empty-clause-next
returns-else-is_empty-clause-next g c next is functions h nx frontier =
    let known = subst (λ es. IsFrontier (g.O.SeqObject.starts c.args.object.now) (g.O.SeqObject.step c.args.object.now) h es c.args.nodes.now) (sym c.self.view_is) frontier in
    let same : c.in-Ok-Some.configs.entries ≡ next = cc in
    subst (λ es. IsFrontier (g.O.SeqObject.starts c.args.object.now) (g.O.SeqObject.step c.args.object.now) (with_event h c.args.event.now) es c.next_configs.new.nodes) same (from_some _ c.in-Ok-Some.field-0-is c.in-Ok-Some.ensures.next functions h nx known)

pub returns-in-Ok-None-clause-over : goal.returns-in-Ok-None-clause-over
returns-in-Ok-None-clause-over g c is functions h next frontier =
    let known = subst (λ es. IsFrontier (g.O.SeqObject.starts c.args.object.now) (g.O.SeqObject.step c.args.object.now) h es c.args.nodes.now) (sym c.self.view_is) frontier in
    from_none _ c.in-Ok-None.field-0-is c.in-Ok-None.ensures.over functions h next known

pub returns-else-is_empty-clause-some : goal.returns-else-is_empty-clause-some
returns-else-is_empty-clause-some g c = grind (arith, common_steps)

pub returns-in-Err-clause-grown : goal.returns-in-Err-clause-grown
returns-in-Err-clause-grown g c = ([], (c.cut-in-Err.ensures ∙ ap (λ n. take n c.next_configs.new.nodes) c.len-count.ensures) ∙ cut_back c.args.nodes.now c.next_configs.new.nodes c.next_configs.ensures.grown ∙ sym (append-nil c.args.nodes.now))

pub returns-in-Err-clause-refused : goal.returns-in-Err-clause-refused
returns-in-Err-clause-refused g c = (c.cut-in-Err.ensures ∙ ap (λ n. take n c.next_configs.new.nodes) c.len-count.ensures) ∙ cut_back c.args.nodes.now c.next_configs.new.nodes c.next_configs.ensures.grown

pub returns-in-Ok-None-clause-grown : goal.returns-in-Ok-None-clause-grown
returns-in-Ok-None-clause-grown g c = ([], (c.cut-in-Ok-None.ensures ∙ ap (λ n. take n c.next_configs.new.nodes) c.len-count.ensures) ∙ cut_back c.args.nodes.now c.next_configs.new.nodes c.next_configs.ensures.grown ∙ sym (append-nil c.args.nodes.now))

pub returns-in-Ok-None-clause-kept : goal.returns-in-Ok-None-clause-kept
returns-in-Ok-None-clause-kept g c _ = (c.cut-in-Ok-None.ensures ∙ ap (λ n. take n c.next_configs.new.nodes) c.len-count.ensures) ∙ cut_back c.args.nodes.now c.next_configs.new.nodes c.next_configs.ensures.grown

pub returns-then-is_empty-clause-kept : goal.returns-then-is_empty-clause-kept
returns-then-is_empty-clause-kept g c _ = (c.cut.ensures ∙ ap (λ n. take n c.next_configs.new.nodes) c.len-count.ensures) ∙ cut_back c.args.nodes.now c.next_configs.new.nodes c.next_configs.ensures.grown
