use Rattle.std.proofs.Common.{ℕ, ◌≡◌, true}
use Rattle.lin_events.specs.declared.calls.Reply.{Reply}
use Rattle.lin_members.specs.Members.{IsOnOffer}
use Rattle.lin_frontier.specs.Placing.{IsAbsent}
use Rattle.lin_members.specs.Searching.{is_watching}
use Rattle.lin_members.proofs.Batching.{each_of_one}
use Rattle.lin_members.proofs.domination.lacks_one_among.Goals as goal

pub returns-then-lacks_one_of : goal.returns-then-lacks_one_of
returns-then-lacks_one_of g c t all =
    (rw (c.as_slice.ensures, c.as_ref.ensures) at c.lacks_one_of.ensures) c.if-lacks_one_of.true
    (each_of_one (λ (x : ℕ × (ℕ × Reply)). is_watching (g.O.SeqObject.observing c.args.object.now) c.args.pending.now x.1.0 ≡ true → IsAbsent x.1.0 c.args.member.now.0.placed → IsOnOffer c.args.member.now.0 x.1) c.args.batches.now c.loop-batch.batch-index c.batch-item.result c.loop-batch-test.true c.batch-item.is all)
