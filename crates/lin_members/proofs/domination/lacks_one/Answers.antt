use Rattle.std.proofs.Common.{ℕ, ◌≡◌, true, All, subst}
use Rattle.lin_events.specs.declared.calls.Reply.{Reply}
use Rattle.lin_members.specs.Batches.{all_of}
use Rattle.lin_members.specs.Members.{IsOnOffer}
use Rattle.lin_frontier.specs.Placing.{IsAbsent}
use Rattle.lin_members.specs.Searching.{is_watching}
use Rattle.lin_members.proofs.Batching.{each_before, each_behind}
use Rattle.lin_members.proofs.domination.lacks_one.Goals as goal

pub returns-then-lacks_one_of : goal.returns-then-lacks_one_of
returns-then-lacks_one_of g c t all =
    c.lacks_one_of.ensures t
    (each_behind (λ (x : ℕ × (ℕ × Reply)). is_watching (g.O.SeqObject.observing c.args.object.now) c.args.pending.now x.1.0 ≡ true → IsAbsent x.1.0 c.args.member.now.0.placed → IsOnOffer c.args.member.now.0 x.1) (all_of c.parts.result.0.now) c.parts.result.1.now
    (subst (All (λ (x : ℕ × (ℕ × Reply)). is_watching (g.O.SeqObject.observing c.args.object.now) c.args.pending.now x.1.0 ≡ true → IsAbsent x.1.0 c.args.member.now.0.placed → IsOnOffer c.args.member.now.0 x.1)) c.parts.ensures all))

pub returns-else-lacks_one_of : goal.returns-else-lacks_one_of
returns-else-lacks_one_of g c t all =
    c.lacks_one_among.ensures t
    (each_before (λ (x : ℕ × (ℕ × Reply)). is_watching (g.O.SeqObject.observing c.args.object.now) c.args.pending.now x.1.0 ≡ true → IsAbsent x.1.0 c.args.member.now.0.placed → IsOnOffer c.args.member.now.0 x.1) (all_of c.parts.result.0.now) c.parts.result.1.now
    (subst (All (λ (x : ℕ × (ℕ × Reply)). is_watching (g.O.SeqObject.observing c.args.object.now) c.args.pending.now x.1.0 ≡ true → IsAbsent x.1.0 c.args.member.now.0.placed → IsOnOffer c.args.member.now.0 x.1)) c.parts.ensures all))
