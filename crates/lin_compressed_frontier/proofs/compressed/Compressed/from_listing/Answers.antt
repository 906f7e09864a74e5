use Rattle.std.proofs.Common.{◌≡◌, ◌∙◌, false, sym, subst, arith}
use Rattle.std.proofs.lemmas.Grind.{common_steps}
use Rattle.std.proofs.lemmas.Result.{IfOk-from_err}
use Rattle.std.proofs.lemmas.Bool.{eqb-true}
use Rattle.lin_order.specs.ConfigurationLaws.{with_event}
use Rattle.lin_members.specs.Compressed.{IsCompressed, IsCovering}
use Rattle.lin_frontier.specs.Frontiers.{IsPending}
use Rattle.lin_members.specs.Listed.{IsListingOf}
use Rattle.lin_compressed_frontier.proofs.Alone.{AreSpelled, without_overwritten}
use Rattle.lin_frontier.specs.lemmas.Answered.{from_none, from_some}
use Rattle.lin_compressed_frontier.proofs.Compressing.{none_left, ok_not_first, well_formed_before}
use Rattle.lin_compressed_frontier.proofs.compressed.Compressed.from_listing.Goals as goal

pub returns-in_default-clause-before : goal.returns-in_default-clause-before
returns-in_default-clause-before g c is functions h next frontier = (
  ok_not_first c.well_formed_is_alternating.ensures functions h c.args.arrival.now.pending.now c.args.arrival.now.at c.args.arrival.now.event.now c.requires.ok.0 c.requires.ok.1 c.requires.ok.2 next,
  from_none _ c.in_default.is c.in_ok-list.ensures.over functions h (well_formed_before c.well_formed_is_alternating.ensures functions h c.args.arrival.now.event.now next.well_formed) (subst (IsPending h) (sym c.of-before.ensures) next.opened)
      (subst (AreSpelled (g.O.SeqObject.starts c.args.arrival.now.object.now) (g.O.SeqObject.step c.args.arrival.now.object.now) (g.O.SeqObject.observing c.args.arrival.now.object.now) h c.args.nodes.now) (sym (c.deref.ensures.value ∙ c.self.view_is)) frontier.covering.spelled),
)

pub returns-then-branch-clause-before : goal.returns-then-branch-clause-before
returns-then-branch-clause-before g c is functions h next frontier = (
  ok_not_first c.well_formed_is_alternating.ensures functions h c.args.arrival.now.pending.now c.args.arrival.now.at c.args.arrival.now.event.now c.requires.ok.0 c.requires.ok.1 c.requires.ok.2 next,
  c.in_ok-is_surely_over.ensures c.if-branch.true functions h c.args.nodes.now (well_formed_before c.well_formed_is_alternating.ensures functions h c.args.arrival.now.event.now next.well_formed) next.opened frontier,
)

pub returns-then-is_empty-clause-empty : goal.returns-then-is_empty-clause-empty
returns-then-is_empty-clause-empty g c is functions h next frontier =
    let begin = g.O.SeqObject.starts c.args.arrival.now.object.now in
    let step = g.O.SeqObject.step c.args.arrival.now.object.now in
    let observes = g.O.SeqObject.observing c.args.arrival.now.object.now in
    let known = subst (λ l. IsCovering begin step observes false h l c.args.nodes.now) (sym (c.deref.ensures.value ∙ c.self.view_is))
    (without_overwritten begin step observes (g.O.SeqObject.overwriting c.args.arrival.now.object.now) h c.args.self.now c.args.nodes.now c.overwritten_can_go.ensures.none c.requires.alone frontier.covering) in
    let listing = from_some _ c.in-Some.is c.in_ok-list.ensures.listing functions h (well_formed_before c.well_formed_is_alternating.ensures functions h c.args.arrival.now.event.now next.well_formed) (subst (IsPending h) (sym c.of-before.ensures) next.opened) known in
    none_left begin step observes (g.O.SeqObject.overwriting c.args.arrival.now.object.now) functions (with_event h c.args.arrival.now.event.now) c.listed.new.nodes c.in_ok-members.members.items c.members_are_exact.ensures.exact c.legal_orders_end.ensures next.well_formed
    (sym c.in_ok-members.members.ok.0 ∙ eqb-true _ _ (sym c.is_empty.ensures ∙ c.if-is_empty.true))
    (c.in_ok-members.ensures functions h next (subst (λ l. IsListingOf begin step observes h l c.listed.new.nodes) (sym c.as_slice.ensures) listing))

pub returns-clause-next : goal.returns-clause-next
returns-clause-next g c next is functions h nx frontier =
    let begin = g.O.SeqObject.starts c.args.arrival.now.object.now in
    let step = g.O.SeqObject.step c.args.arrival.now.object.now in
    let observes = g.O.SeqObject.observing c.args.arrival.now.object.now in
    let known = subst (λ l. IsCovering begin step observes false h l c.args.nodes.now) (sym (c.deref.ensures.value ∙ c.self.view_is))
    (without_overwritten begin step observes (g.O.SeqObject.overwriting c.args.arrival.now.object.now) h c.args.self.now c.args.nodes.now c.overwritten_can_go.ensures.none c.requires.alone frontier.covering) in
    let listing = from_some _ c.in-Some.is c.in_ok-list.ensures.listing functions h (well_formed_before c.well_formed_is_alternating.ensures functions h c.args.arrival.now.event.now nx.well_formed) (subst (IsPending h) (sym c.of-before.ensures) nx.opened) known in
    let same : c.in_ok-members.members.items ≡ next = cc in
    subst (λ l. IsCompressed begin step observes (g.O.SeqObject.overwriting c.args.arrival.now.object.now) (with_event h c.args.arrival.now.event.now) l c.listed.new.nodes) same
    (c.in_ok-members.ensures functions h nx (subst (λ l. IsListingOf begin step observes h l c.listed.new.nodes) (sym c.as_slice.ensures) listing))

pub returns-in_err-is_surely_over-clause-before : goal.returns-in_err-is_surely_over-clause-before
returns-in_err-is_surely_over-clause-before g c = IfOk-from_err _ _ c.from_residual.ensures.0

pub returns-in_err-is_surely_over-clause-empty : goal.returns-in_err-is_surely_over-clause-empty
returns-in_err-is_surely_over-clause-empty g c = IfOk-from_err _ _ c.from_residual.ensures.0

pub returns-in_err-is_surely_over-clause-never : goal.returns-in_err-is_surely_over-clause-never
returns-in_err-is_surely_over-clause-never g c = IfOk-from_err _ _ c.from_residual.ensures.0

pub returns-in_err-is_surely_over-clause-next : goal.returns-in_err-is_surely_over-clause-next
returns-in_err-is_surely_over-clause-next g c = IfOk-from_err _ _ c.from_residual.ensures.0

pub returns-in_err-is_surely_over-clause-some : goal.returns-in_err-is_surely_over-clause-some
returns-in_err-is_surely_over-clause-some g c = IfOk-from_err _ _ c.from_residual.ensures.0

pub returns-in_err-list-clause-before : goal.returns-in_err-list-clause-before
returns-in_err-list-clause-before g c = IfOk-from_err _ _ c.from_residual-in_err-list.ensures.0

pub returns-in_err-list-clause-empty : goal.returns-in_err-list-clause-empty
returns-in_err-list-clause-empty g c = IfOk-from_err _ _ c.from_residual-in_err-list.ensures.0

pub returns-in_err-list-clause-never : goal.returns-in_err-list-clause-never
returns-in_err-list-clause-never g c = IfOk-from_err _ _ c.from_residual-in_err-list.ensures.0

pub returns-in_err-list-clause-next : goal.returns-in_err-list-clause-next
returns-in_err-list-clause-next g c = IfOk-from_err _ _ c.from_residual-in_err-list.ensures.0

pub returns-in_err-list-clause-some : goal.returns-in_err-list-clause-some
returns-in_err-list-clause-some g c = IfOk-from_err _ _ c.from_residual-in_err-list.ensures.0

pub returns-in_err-members-clause-before : goal.returns-in_err-members-clause-before
returns-in_err-members-clause-before g c = IfOk-from_err _ _ c.from_residual-in_err-members.ensures.0

pub returns-in_err-members-clause-empty : goal.returns-in_err-members-clause-empty
returns-in_err-members-clause-empty g c = IfOk-from_err _ _ c.from_residual-in_err-members.ensures.0

pub returns-in_err-members-clause-never : goal.returns-in_err-members-clause-never
returns-in_err-members-clause-never g c = IfOk-from_err _ _ c.from_residual-in_err-members.ensures.0

pub returns-in_err-members-clause-next : goal.returns-in_err-members-clause-next
returns-in_err-members-clause-next g c = IfOk-from_err _ _ c.from_residual-in_err-members.ensures.0

pub returns-in_err-members-clause-some : goal.returns-in_err-members-clause-some
returns-in_err-members-clause-some g c = IfOk-from_err _ _ c.from_residual-in_err-members.ensures.0

pub returns-clause-some : goal.returns-clause-some
returns-clause-some g c = grind (arith, common_steps)

pub returns-clause-before : goal.returns-clause-before
returns-clause-before g c = grind (arith, common_steps)

pub returns-clause-empty : goal.returns-clause-empty
returns-clause-empty g c = grind (arith, common_steps)

pub returns-clause-grown : goal.returns-clause-grown
returns-clause-grown g c = grind (arith, common_steps)

pub returns-clause-never : goal.returns-clause-never
returns-clause-never g c = grind (arith, common_steps)

pub returns-clause-tried : goal.returns-clause-tried
returns-clause-tried g c = grind (arith, common_steps)

pub returns-in_default-clause-empty : goal.returns-in_default-clause-empty
returns-in_default-clause-empty g c = grind (arith, common_steps)

pub returns-in_default-clause-grown : goal.returns-in_default-clause-grown
returns-in_default-clause-grown g c = grind (arith, common_steps)

pub returns-in_default-clause-never : goal.returns-in_default-clause-never
returns-in_default-clause-never g c = grind (arith, common_steps)

pub returns-in_default-clause-next : goal.returns-in_default-clause-next
returns-in_default-clause-next g c = grind (arith, common_steps)

pub returns-in_default-clause-some : goal.returns-in_default-clause-some
returns-in_default-clause-some g c = grind (arith, common_steps)

pub returns-in_default-clause-tried : goal.returns-in_default-clause-tried
returns-in_default-clause-tried g c = grind (arith, common_steps)

pub returns-in_err-is_surely_over-clause-grown : goal.returns-in_err-is_surely_over-clause-grown
returns-in_err-is_surely_over-clause-grown g c = grind (arith, common_steps)

pub returns-in_err-is_surely_over-clause-tried : goal.returns-in_err-is_surely_over-clause-tried
returns-in_err-is_surely_over-clause-tried g c = grind (arith, common_steps)

pub returns-in_err-list-clause-grown : goal.returns-in_err-list-clause-grown
returns-in_err-list-clause-grown g c = grind (arith, common_steps)

pub returns-in_err-list-clause-tried : goal.returns-in_err-list-clause-tried
returns-in_err-list-clause-tried g c = grind (arith, common_steps)

pub returns-in_err-members-clause-grown : goal.returns-in_err-members-clause-grown
returns-in_err-members-clause-grown g c = grind (arith, common_steps)

pub returns-in_err-members-clause-tried : goal.returns-in_err-members-clause-tried
returns-in_err-members-clause-tried g c = grind (arith, common_steps)

pub returns-then-branch-clause-empty : goal.returns-then-branch-clause-empty
returns-then-branch-clause-empty g c = grind (arith, common_steps)

pub returns-then-branch-clause-grown : goal.returns-then-branch-clause-grown
returns-then-branch-clause-grown g c = grind (arith, common_steps)

pub returns-then-branch-clause-never : goal.returns-then-branch-clause-never
returns-then-branch-clause-never g c = grind (arith, common_steps)

pub returns-then-branch-clause-next : goal.returns-then-branch-clause-next
returns-then-branch-clause-next g c = grind (arith, common_steps)

pub returns-then-branch-clause-some : goal.returns-then-branch-clause-some
returns-then-branch-clause-some g c = grind (arith, common_steps)

pub returns-then-branch-clause-tried : goal.returns-then-branch-clause-tried
returns-then-branch-clause-tried g c = grind (arith, common_steps)

pub returns-then-is_empty-clause-before : goal.returns-then-is_empty-clause-before
returns-then-is_empty-clause-before g c = grind (arith, common_steps)

pub returns-then-is_empty-clause-grown : goal.returns-then-is_empty-clause-grown
returns-then-is_empty-clause-grown g c = grind (arith, common_steps)

pub returns-then-is_empty-clause-never : goal.returns-then-is_empty-clause-never
returns-then-is_empty-clause-never g c = grind (arith, common_steps)

pub returns-then-is_empty-clause-next : goal.returns-then-is_empty-clause-next
returns-then-is_empty-clause-next g c = grind (arith, common_steps)

pub returns-then-is_empty-clause-some : goal.returns-then-is_empty-clause-some
returns-then-is_empty-clause-some g c = grind (arith, common_steps)

pub returns-then-is_empty-clause-tried : goal.returns-then-is_empty-clause-tried
returns-then-is_empty-clause-tried g c = grind (arith, common_steps)
