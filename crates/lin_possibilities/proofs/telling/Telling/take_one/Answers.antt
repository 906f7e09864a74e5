use Rattle.std.proofs.Common.{◌≡◌, ◌∙◌, Some, subst, ap}
use Rattle.lin_frontier.specs.Placing.{insert_pair}
use Rattle.lin_members.specs.declared.members.Path.{Path}
use Rattle.lin_members.specs.Listed.{Continues}
use Rattle.lin_possibilities.specs.inner.Telling.{Has}
use Rattle.lin_possibilities.proofs.Growing.{added_none, added_push, has_last, leads_taken}
use Rattle.lin_possibilities.proofs.telling.Telling.take_one.Goals as goal
use Rattle.lin_possibilities.proofs.telling.Telling.take_one.Goals.{In_ok-push_member}

-- the configuration with the offer taken
with_it : (g : _) (c : In_ok-push_member g) → c.in_ok-config.config ≡ (c.args.member.now.0.state, insert_pair c.args.offer.now.1.0 c.args.offer.now.1.1 c.args.member.now.0.placed)
with_it g c =
    let state = c.in_ok-state.ensures ∙ c.state.ensures in
    let reply = c.in_ok-reply.ensures in
    c.in_ok-config.ensures ∙ (λ i. (state i, insert_pair c.args.offer.now.1.0 (reply i) (ap (λ d. d.1) c.config.ensures i)))

pub returns-clause-added : goal.returns-clause-added
returns-clause-added g c =
    let m = c.args.member.now in
    let found = c.in-Some.ensures.some in
    added_push _ _ _ _ m c.args.nodes.now c.args.out.now.items c.args.nodes.now c.bare_next.new.nodes c.args.out.now.items c.push_member.new.members.items c.in_ok-next.next c.bare_next.ensures.grown
    (leads_taken _ _ _ _ c.well_formed_is_alternating.ensures c.rounds_take_operations.ensures.takes (g.O.SeqObject.unchanged c.args.self.now.object.now) c.args.nodes.now c.bare_next.new.nodes m c.in_ok-next.next c.in-Some.operation.now c.args.offer.now
    c.in_ok-placed.placed c.in_ok-config.config found.0 c.requires found.1 (rw c.placed.ensures at (c.is_absent.ensures.0 c.if-not-is_absent.false)) c.in_ok-placed.ensures (with_it g (goal.at.returns-clause-added g c).In_ok-push_member) c.bare_next.ensures.grown
    c.in_ok-next.ensures.same (subst (λ (p : Path). Continues c.bare_next.new.nodes p c.in_ok-next.next.1 c.in_ok-placed.placed (Some c.args.offer.now.0)) c.path.ensures c.in_ok-next.ensures.continued))
    c.in_ok-push_member.ensures (added_none _ _ _ _ m c.args.nodes.now c.args.out.now.items c.args.nodes.now)

pub returns-clause-taken : goal.returns-clause-taken
returns-clause-taken g c o there same absent =
    subst (Has c.push_member.new.members.items) (ap (λ k. (k.state, k.placed)) c.in_ok-next.ensures.same ∙ with_it g (goal.at.returns-clause-taken g c).In_ok-push_member) (has_last c.args.out.now.items c.push_member.new.members.items c.in_ok-next.next c.in_ok-push_member.ensures)
