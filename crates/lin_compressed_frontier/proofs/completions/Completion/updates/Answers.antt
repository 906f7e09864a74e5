use Rattle.std.proofs.Common.{◌+◌, length, take, arith, ap, sym, subst}
use Rattle.lin_members.specs.Searching.{AreUpdates}
use Rattle.lin_frontier.specs.Walks.{IsTriedAtMost}
use Rattle.lin_frontier.specs.lemmas.Counting.{tried_more, tried_none}
use Rattle.lin_compressed_frontier.proofs.Updating.{updates_next, updates_pass, updates_full}
use Rattle.lin_compressed_frontier.proofs.completions.Completion.updates.Goals.{then-not-waits_for_like+in_ok-place_update, else-not-waits_for_like}
use Rattle.lin_compressed_frontier.proofs.completions.Completion.updates.Goals as goal

pub loop-operation-preserved : goal.loop-operation-preserved
loop-operation-preserved g c =
    let same = c.as_slice-operations.ensures in
    let a = rw same at c.in-Some.ensures.lookup in
    let b = c.waits_for_like.ensures in
    let step = g.O.SeqObject.step c.args.self.now.object.now in
    let observes = g.O.SeqObject.observing c.args.self.now.object.now in
    let all = c.loop-operation.invariant.placed in
    let xs = c.args.pending.now in
    let at = c.loop-operation.at in
    elim c.if-not-waits_for_like.branch [
      | then-not-waits_for_like+in_ok-place_update w ↦ record {
        placed = subst (λ l. AreUpdates step observes (take (at + 1) xs) c.args.config.now l.items) (sym w.out-is)
            (updates_next step observes c.args.config.now xs at c.in-Some.operation.now c.loop-operation.out.items w.place_update.new.out.items a.3.0 a.1 w.in_ok-place_update.ensures.placed all);
        few = λ overwriting. omega (arith, ap (λ l. length l.items) w.out-is, w.in_ok-place_update.ensures.few overwriting, c.loop-operation.invariant.few overwriting);
        within = omega (arith, a.3.0);
        tried = subst (λ m. IsTriedAtMost (at + 1) c.args.meter.now m) (sym w.meter-is) (tried_more at 1 (at + 1) _ _ _ (omega arith) c.loop-operation.invariant.tried w.place_update.ensures.tried);
      }
      | else-not-waits_for_like w ↦ record {
        placed = subst (λ l. AreUpdates step observes (take (at + 1) xs) c.args.config.now l.items) (sym w.out-is)
            (updates_pass step observes c.args.config.now xs at c.in-Some.operation.now c.loop-operation.out.items a.3.0 a.1 (rw (c.placed.ensures, same) at (b w.if-not-waits_for_like.false)) all);
        few = λ overwriting. omega (arith, ap (λ l. length l.items) w.out-is, c.loop-operation.invariant.few overwriting);
        within = omega (arith, a.3.0);
        tried = subst (λ m. IsTriedAtMost (at + 1) c.args.meter.now m) (sym w.meter-is) (tried_more at 0 (at + 1) _ _ _ (omega arith) c.loop-operation.invariant.tried (tried_none 0 _));
      }
    ]

pub returns-clause-placed : goal.returns-clause-placed
returns-clause-placed g c =
    updates_full _ _ _ c.args.pending.now c.loop-operation.at c.loop-operation.out.items (rw c.as_slice-operations.ensures at c.in_default.ensures.lookup).3 c.loop-operation.invariant.placed

pub returns-clause-few : goal.returns-clause-few
returns-clause-few g c overwriting = omega (arith, c.loop-operation.invariant.few overwriting, c.loop-operation.invariant.within)
