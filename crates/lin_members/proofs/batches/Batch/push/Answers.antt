use Rattle.lin_members.proofs.Batching.{among_put}
use Rattle.lin_members.proofs.batches.Batch.push.Goals as goal

pub invariant_of-self-2 : goal.invariant_of-self-2
invariant_of-self-2 c =
    among_put _ c.self.inside.processes.items c.note.new.processes.items c.self.inside.items.items c.push.new.self.items (c.args.round, (c.args.process, c.args.reply)) c.in_ok-note.ensures.kept c.in_ok-note.ensures.there
    c.self.invariant c.push.ensures.items
