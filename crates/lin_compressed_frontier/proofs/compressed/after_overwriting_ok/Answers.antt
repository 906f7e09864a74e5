use Rattle.std.proofs.Common.{◌≡◌, subst}
use Rattle.lin_members.specs.Asking.{IsReturnWith}
use Rattle.lin_compressed_frontier.proofs.ReturningAll.{return_with}
use Rattle.lin_compressed_frontier.proofs.compressed.after_overwriting_ok.Goals as goal

pub returns-clause-returned : goal.returns-clause-returned
returns-clause-returned g c =
    let step = g.O.SeqObject.step c.args.completion.now.object.now in
    let observes = g.O.SeqObject.observing c.args.completion.now.object.now in
    let operation = c.args.completion.now.operation.now in
    let reply = c.args.completion.now.reply.now in
    let pending = c.args.completion.now.pending.now in
    let nodes = c.return_all.new.nodes in
    let made = c.in_ok-push_all_taken_out.ensures in
    let same : c.in-Ok.at ≡ c.args.now = c.in-Ok.ensures.1 in
    subst (λ n. IsReturnWith step observes operation reply pending nodes n c.args.members.now c.push_all_taken_out.new.out.items) same
    (return_with step observes operation reply pending c.in-Ok.at c.args.members.now c.return_all.new.found.items made.0 c.push_all_taken_out.new.out.items nodes c.in_ok-return_all.ensures.sound c.in_ok-return_all.ensures.all made.1 made.2)
