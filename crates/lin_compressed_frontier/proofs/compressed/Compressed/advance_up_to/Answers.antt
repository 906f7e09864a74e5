use Rattle.std.proofs.Common.{◌≡◌, ◌+◌, ◌*◌, Contains, length, ap, subst, sym, ◌∙◌, arith}
use Rattle.std.proofs.lemmas.Grind.{common_steps}
use Rattle.std.proofs.lemmas.Bool.{eqb-true}
use Rattle.lin_events.specs.declared.meter.Meter.{Meter}
use Rattle.lin_order.specs.ConfigurationLaws.{with_event}
use Rattle.lin_members.specs.Compressed.{IsCovering, IsCompressed}
use Rattle.lin_frontier.specs.lemmas.Answered.{from_some}
use Rattle.lin_compressed_frontier.proofs.Compressing.{cut_grown, cut_same, none_left}
use Rattle.lin_frontier.specs.lemmas.Counting.{tried_since}
use Rattle.lin_compressed_frontier.proofs.compressed.Compressed.advance_up_to.Goals as goal

pub returns-then-is_empty-clause-empty : goal.returns-then-is_empty-clause-empty
returns-then-is_empty-clause-empty g c is functions h next frontier =
    let known = subst (λ l. IsCovering (g.O.SeqObject.starts c.args.arrival.now.object.now) (g.O.SeqObject.step c.args.arrival.now.object.now) (g.O.SeqObject.observing c.args.arrival.now.object.now) (g.O.SeqObject.overwriting c.args.arrival.now.object.now) h l c.args.nodes.now)
    (sym (c.deref.ensures.value ∙ c.self.view_is)) frontier.covering in
    none_left (g.O.SeqObject.starts c.args.arrival.now.object.now) (g.O.SeqObject.step c.args.arrival.now.object.now) (g.O.SeqObject.observing c.args.arrival.now.object.now) (g.O.SeqObject.overwriting c.args.arrival.now.object.now) functions (with_event h c.args.arrival.now.event.now) c.advance_members.new.nodes c.in-Ok-Some.members.items
    c.members_are_exact.ensures.exact c.legal_orders_end.ensures next.well_formed (sym c.in-Ok-Some.members.ok.0 ∙ eqb-true _ _ (sym c.is_empty.ensures ∙ c.if-is_empty.true))
    (from_some _ c.in-Ok-Some.field-0-is c.in-Ok-Some.ensures.next functions h next known)

pub returns-else-is_empty-clause-next : goal.returns-else-is_empty-clause-next
returns-else-is_empty-clause-next g c next is functions h nx frontier =
    let known = subst (λ l. IsCovering (g.O.SeqObject.starts c.args.arrival.now.object.now) (g.O.SeqObject.step c.args.arrival.now.object.now) (g.O.SeqObject.observing c.args.arrival.now.object.now) (g.O.SeqObject.overwriting c.args.arrival.now.object.now) h l c.args.nodes.now)
    (sym (c.deref.ensures.value ∙ c.self.view_is)) frontier.covering in
    let same : c.in-Ok-Some.members.items ≡ next = cc in
    subst (λ l. IsCompressed (g.O.SeqObject.starts c.args.arrival.now.object.now) (g.O.SeqObject.step c.args.arrival.now.object.now) (g.O.SeqObject.observing c.args.arrival.now.object.now) (g.O.SeqObject.overwriting c.args.arrival.now.object.now) (with_event h c.args.arrival.now.event.now) l c.advance_members.new.nodes) same
    (from_some _ c.in-Ok-Some.field-0-is c.in-Ok-Some.ensures.next functions h nx known)

pub returns-then-is_empty-clause-grown : goal.returns-then-is_empty-clause-grown
returns-then-is_empty-clause-grown g c = cut_grown c.args.nodes.now c.advance_members.new.nodes c.cut.new.self c.len-count.result c.cut.ensures c.len-count.ensures c.advance_members.ensures.grown

pub returns-in-Ok-None-clause-grown : goal.returns-in-Ok-None-clause-grown
returns-in-Ok-None-clause-grown g c = cut_grown c.args.nodes.now c.advance_members.new.nodes c.cut-in-Ok-None.new.self c.len-count.result c.cut-in-Ok-None.ensures c.len-count.ensures c.advance_members.ensures.grown

pub returns-in-Err-clause-grown : goal.returns-in-Err-clause-grown
returns-in-Err-clause-grown g c = cut_grown c.args.nodes.now c.advance_members.new.nodes c.cut-in-Err.new.self c.len-count.result c.cut-in-Err.ensures c.len-count.ensures c.advance_members.ensures.grown

pub advance_members-requires-clause-fits : goal.advance_members-requires-clause-fits
advance_members-requires-clause-fits g c alone overwriting m there = c.requires.fits alone overwriting m (subst (λ l. Contains l m) (c.deref.ensures.value ∙ c.self.view_is) there)

pub returns-then-is_empty-clause-tries : goal.returns-then-is_empty-clause-tries
returns-then-is_empty-clause-tries g c =
    let len = length c.args.arrival.now.pending.now in
    tried_since c.args.meter.now c.tick_step.new.self c.advance_members.new.meter (c.args.search.limit * (2 * len + 3)) (length c.deref.result.now) (length c.args.self.now) (2 * ((len + 2) * (len + 2))) (ap (λ (m : Meter). m.tries) c.tick_step.ensures)
    (ap length (c.deref.ensures.value ∙ c.self.view_is)) c.advance_members.ensures.tried

pub returns-else-is_empty-clause-tries : goal.returns-else-is_empty-clause-tries
returns-else-is_empty-clause-tries g c =
    let len = length c.args.arrival.now.pending.now in
    tried_since c.args.meter.now c.tick_step.new.self c.advance_members.new.meter (c.args.search.limit * (2 * len + 3)) (length c.deref.result.now) (length c.args.self.now) (2 * ((len + 2) * (len + 2))) (ap (λ (m : Meter). m.tries) c.tick_step.ensures)
    (ap length (c.deref.ensures.value ∙ c.self.view_is)) c.advance_members.ensures.tried

pub returns-in-Ok-None-clause-tries : goal.returns-in-Ok-None-clause-tries
returns-in-Ok-None-clause-tries g c =
    let len = length c.args.arrival.now.pending.now in
    tried_since c.args.meter.now c.tick_step.new.self c.advance_members.new.meter (c.args.search.limit * (2 * len + 3)) (length c.deref.result.now) (length c.args.self.now) (2 * ((len + 2) * (len + 2))) (ap (λ (m : Meter). m.tries) c.tick_step.ensures)
    (ap length (c.deref.ensures.value ∙ c.self.view_is)) c.advance_members.ensures.tried

pub returns-in-Err-clause-tries : goal.returns-in-Err-clause-tries
returns-in-Err-clause-tries g c =
    let len = length c.args.arrival.now.pending.now in
    tried_since c.args.meter.now c.tick_step.new.self c.advance_members.new.meter (c.args.search.limit * (2 * len + 3)) (length c.deref.result.now) (length c.args.self.now) (2 * ((len + 2) * (len + 2))) (ap (λ (m : Meter). m.tries) c.tick_step.ensures)
    (ap length (c.deref.ensures.value ∙ c.self.view_is)) c.advance_members.ensures.tried

pub returns-then-is_empty-clause-kept : goal.returns-then-is_empty-clause-kept
returns-then-is_empty-clause-kept g c _ = cut_same c.args.nodes.now c.advance_members.new.nodes c.cut.new.self c.len-count.result c.cut.ensures c.len-count.ensures c.advance_members.ensures.grown

pub returns-in-Ok-None-clause-kept : goal.returns-in-Ok-None-clause-kept
returns-in-Ok-None-clause-kept g c _ = cut_same c.args.nodes.now c.advance_members.new.nodes c.cut-in-Ok-None.new.self c.len-count.result c.cut-in-Ok-None.ensures c.len-count.ensures c.advance_members.ensures.grown

pub returns-in-Err-clause-refused : goal.returns-in-Err-clause-refused
returns-in-Err-clause-refused g c = cut_same c.args.nodes.now c.advance_members.new.nodes c.cut-in-Err.new.self c.len-count.result c.cut-in-Err.ensures c.len-count.ensures c.advance_members.ensures.grown

pub advance_members-requires-clause-goes : goal.advance_members-requires-clause-goes
advance_members-requires-clause-goes g c = grind (arith, common_steps)

pub returns-else-is_empty-clause-empty : goal.returns-else-is_empty-clause-empty
returns-else-is_empty-clause-empty g c = grind (arith, common_steps)

pub returns-else-is_empty-clause-grown : goal.returns-else-is_empty-clause-grown
returns-else-is_empty-clause-grown g c = grind (arith, common_steps)

pub returns-else-is_empty-clause-kept : goal.returns-else-is_empty-clause-kept
returns-else-is_empty-clause-kept g c = grind (arith, common_steps)

pub returns-else-is_empty-clause-oks : goal.returns-else-is_empty-clause-oks
returns-else-is_empty-clause-oks g c = grind (arith, common_steps)

pub returns-else-is_empty-clause-refused : goal.returns-else-is_empty-clause-refused
returns-else-is_empty-clause-refused g c = grind (arith, common_steps)

pub returns-else-is_empty-clause-scans : goal.returns-else-is_empty-clause-scans
returns-else-is_empty-clause-scans g c = grind (arith, common_steps)

pub returns-else-is_empty-clause-some : goal.returns-else-is_empty-clause-some
returns-else-is_empty-clause-some g c = grind (arith, common_steps)

pub returns-else-is_empty-clause-steps : goal.returns-else-is_empty-clause-steps
returns-else-is_empty-clause-steps g c = grind (arith, common_steps)

pub returns-in-Err-clause-empty : goal.returns-in-Err-clause-empty
returns-in-Err-clause-empty g c = grind (arith, common_steps)

pub returns-in-Err-clause-kept : goal.returns-in-Err-clause-kept
returns-in-Err-clause-kept g c = grind (arith, common_steps)

pub returns-in-Err-clause-next : goal.returns-in-Err-clause-next
returns-in-Err-clause-next g c = grind (arith, common_steps)

pub returns-in-Err-clause-oks : goal.returns-in-Err-clause-oks
returns-in-Err-clause-oks g c = grind (arith, common_steps)

pub returns-in-Err-clause-scans : goal.returns-in-Err-clause-scans
returns-in-Err-clause-scans g c = grind (arith, common_steps)

pub returns-in-Err-clause-some : goal.returns-in-Err-clause-some
returns-in-Err-clause-some g c = grind (arith, common_steps)

pub returns-in-Err-clause-steps : goal.returns-in-Err-clause-steps
returns-in-Err-clause-steps g c = grind (arith, common_steps)

pub returns-in-Ok-None-clause-empty : goal.returns-in-Ok-None-clause-empty
returns-in-Ok-None-clause-empty g c = grind (arith, common_steps)

pub returns-in-Ok-None-clause-next : goal.returns-in-Ok-None-clause-next
returns-in-Ok-None-clause-next g c = grind (arith, common_steps)

pub returns-in-Ok-None-clause-oks : goal.returns-in-Ok-None-clause-oks
returns-in-Ok-None-clause-oks g c = grind (arith, common_steps)

pub returns-in-Ok-None-clause-refused : goal.returns-in-Ok-None-clause-refused
returns-in-Ok-None-clause-refused g c = grind (arith, common_steps)

pub returns-in-Ok-None-clause-scans : goal.returns-in-Ok-None-clause-scans
returns-in-Ok-None-clause-scans g c = grind (arith, common_steps)

pub returns-in-Ok-None-clause-some : goal.returns-in-Ok-None-clause-some
returns-in-Ok-None-clause-some g c = grind (arith, common_steps)

pub returns-in-Ok-None-clause-steps : goal.returns-in-Ok-None-clause-steps
returns-in-Ok-None-clause-steps g c = grind (arith, common_steps)

pub returns-then-is_empty-clause-next : goal.returns-then-is_empty-clause-next
returns-then-is_empty-clause-next g c = grind (arith, common_steps)

pub returns-then-is_empty-clause-oks : goal.returns-then-is_empty-clause-oks
returns-then-is_empty-clause-oks g c = grind (arith, common_steps)

pub returns-then-is_empty-clause-refused : goal.returns-then-is_empty-clause-refused
returns-then-is_empty-clause-refused g c = grind (arith, common_steps)

pub returns-then-is_empty-clause-scans : goal.returns-then-is_empty-clause-scans
returns-then-is_empty-clause-scans g c = grind (arith, common_steps)

pub returns-then-is_empty-clause-some : goal.returns-then-is_empty-clause-some
returns-then-is_empty-clause-some g c = grind (arith, common_steps)

pub returns-then-is_empty-clause-steps : goal.returns-then-is_empty-clause-steps
returns-then-is_empty-clause-steps g c = grind (arith, common_steps)
