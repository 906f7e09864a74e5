use Rattle.std.proofs.Common.{◌+◌, ◌*◌, ◌∙◌, arith, length, subst, sym, true≢false}
use Rattle.std.proofs.lemmas.Grind.{common_steps}
use Rattle.std.proofs.lemmas.Result.{IfOk-from_err}
use Rattle.lin_frontier.specs.Walks.{IsTriedAtMost}
use Rattle.lin_frontier.specs.lemmas.Counting.{tried_none, tried_turn, tried_turns}
use Rattle.lin_compressed_frontier.proofs.ReturningAll.{returning_all, returning_next, returning_skip}
use Rattle.lin_configurations.specs.lemmas.Visiting.{grown_grown}
use Rattle.lin_compressed_frontier.proofs.compressed.return_all.Goals.{then-is_absent+in_ok-return_from, else-is_absent}
use Rattle.lin_compressed_frontier.proofs.compressed.return_all.Goals as goal

pub returns-in_err-return_from-clause-grown : goal.returns-in_err-return_from-clause-grown
returns-in_err-return_from-clause-grown g c = grown_grown c.args.nodes.now c.loop-member.nodes c.return_from.new.nodes c.loop-member.invariant.returning.nodes_grown c.return_from.ensures.grown

pub returns-in_err-return_from-clause-tried : goal.returns-in_err-return_from-clause-tried
returns-in_err-return_from-clause-tried g c =
    let len = length c.args.completion.now.pending.now in
    let i = c.loop-member.member-index in
    tried_turns (i + 1) (length c.args.members.now) (2 * ((len + 1) * (len + 1))) _ _ (omega (arith, c.loop-member-test.true))
    (tried_turn i (2 * ((len + 1) * (len + 1))) _ _ _ c.loop-member.invariant.tried c.return_from.ensures.tried)

pub loop-member-preserved : goal.loop-member-preserved
loop-member-preserved g c =
    let step = g.O.SeqObject.step c.args.completion.now.object.now in
    let observes = g.O.SeqObject.observing c.args.completion.now.object.now in
    let operation = c.args.completion.now.operation.now in
    let reply = c.args.completion.now.reply.now in
    let pending = c.args.completion.now.pending.now in
    let len = length pending in
    let i = c.loop-member.member-index in
    let x = c.member-item.result in
    let test = rw c.placed.ensures at c.is_absent.ensures in
    let so_far = c.loop-member.invariant in
    elim c.if-is_absent.branch [
      | then-is_absent+in_ok-return_from w ↦ record {
        returning = rw (w.nodes-is, w.found-is)
            (returning_next step observes operation reply pending c.args.now c.args.members.now i x c.loop-member-test.true c.member-item.is c.args.nodes.now c.loop-member.nodes c.loop-member.found.items w.return_from.new.nodes
            w.return_from.new.out.items (test.0 w.if-is_absent.true) w.return_from.ensures.grown w.in_ok-return_from.ensures.found w.in_ok-return_from.ensures.all so_far.returning);
        tried = subst (λ m. IsTriedAtMost ((i + 1) * (2 * ((len + 1) * (len + 1)))) c.args.meter.now m) (sym w.meter-is)
            (tried_turn i (2 * ((len + 1) * (len + 1))) _ _ _ so_far.tried w.return_from.ensures.tried);
      }
      | else-is_absent w ↦ record {
        returning = rw (w.nodes-is, w.found-is)
            (returning_skip step observes operation reply pending c.args.now c.args.members.now i x c.loop-member-test.true c.member-item.is c.args.nodes.now c.loop-member.nodes c.loop-member.found.items
            (λ absent. true≢false (sym (test.1 absent) ∙ w.if-is_absent.false)) so_far.returning);
        tried = subst (λ m. IsTriedAtMost ((i + 1) * (2 * ((len + 1) * (len + 1)))) c.args.meter.now m) (sym w.meter-is)
            (tried_turn i (2 * ((len + 1) * (len + 1))) _ _ _ so_far.tried (tried_none (2 * ((len + 1) * (len + 1))) _));
      }
    ]

pub returns-clause-sound : goal.returns-clause-sound
returns-clause-sound g c =
    (returning_all (g.O.SeqObject.step c.args.completion.now.object.now) (g.O.SeqObject.observing c.args.completion.now.object.now) c.args.completion.now.operation.now c.args.completion.now.reply.now
    c.args.completion.now.pending.now c.args.now c.args.members.now c.loop-member.member-index c.args.nodes.now c.loop-member.nodes c.loop-member.found.items c.loop-member-test.false c.loop-member.invariant.returning).sound

pub returns-clause-all : goal.returns-clause-all
returns-clause-all g c =
    (returning_all (g.O.SeqObject.step c.args.completion.now.object.now) (g.O.SeqObject.observing c.args.completion.now.object.now) c.args.completion.now.operation.now c.args.completion.now.reply.now
    c.args.completion.now.pending.now c.args.now c.args.members.now c.loop-member.member-index c.args.nodes.now c.loop-member.nodes c.loop-member.found.items c.loop-member-test.false c.loop-member.invariant.returning).all

pub returns-in_err-return_from-clause-all : goal.returns-in_err-return_from-clause-all
returns-in_err-return_from-clause-all g c = IfOk-from_err _ _ c.from_residual.ensures.0

pub returns-in_err-return_from-clause-sound : goal.returns-in_err-return_from-clause-sound
returns-in_err-return_from-clause-sound g c = IfOk-from_err _ _ c.from_residual.ensures.0

pub returns-clause-tried : goal.returns-clause-tried
returns-clause-tried g c = grind (arith, common_steps)
