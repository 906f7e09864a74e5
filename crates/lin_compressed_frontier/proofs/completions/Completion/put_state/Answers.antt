use Rattle.std.proofs.Common.{◌≡◌, ◌∙◌, List, ap, inl, inr, refl, subst, ℕ}
use Rattle.indexmap.proofs.MapLemmas.{OnOk-map}
use Rattle.lin_events.specs.declared.calls.Reply.{Reply}
use Rattle.lin_members.specs.Searching.{DominatesIn}
use Rattle.lin_configurations.specs.Putting.{IsPutNext}
use Rattle.lin_compressed_frontier.proofs.completions.Completion.put_state.Goals as goal

pub returns-then-is_found-clause-taken : goal.returns-then-is_found-clause-taken
returns-then-is_found-clause-taken g c =
    let found = (rw c.deref.ensures.value at c.is_found.ensures) c.if-is_found.true in
    let same = c.in_ok-config.ensures ∙ ap (λ (e : g.row.O-State.Denot × List (ℕ × Reply)). (c.args.state, e.1)) c.config.ensures in
    inl (found.0, found.1, subst (λ (e : g.row.O-State.Denot × List (ℕ × Reply)). DominatesIn (g.O.SeqObject.observing c.args.self.now.object.now) c.args.self.now.pending.now found.0.0 e.0 e.1 c.args.offers.now) same found.2, refl)

pub returns-clause-taken : goal.returns-clause-taken
returns-clause-taken g c =
    let same = c.in_ok-config.ensures ∙ ap (λ (e : g.row.O-State.Denot × List (ℕ × Reply)). (c.args.state, e.1)) c.config.ensures in
    OnOk-map c.push_update.result _ _ (λ put. inr (
    subst (λ (e : g.row.O-State.Denot × List (ℕ × Reply)). IsPutNext e (record { at = c.args.self.now.operation.now.at; reply = c.args.self.now.reply.now }) c.args.offers.now c.args.member.now.1 c.push_update.new.nodes c.args.out.now.items c.push_update.new.out.items) same put)) c.push_update.ensures.put
