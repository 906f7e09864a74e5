use Rattle.std.proofs.Common.{ℕ}
use Rattle.lin_events.specs.declared.calls.Reply.{Reply}
use Rattle.lin_members.specs.Searching.{is_watching}
use Rattle.lin_frontier.specs.lemmas.Inserting.{passed_by}
use Rattle.lin_members.specs.lemmas.Offering.{offering_empty}
use Rattle.lin_compressed_frontier.proofs.completions.Completion.offers_behind.Goals as goal

pub returns-clause-offered : goal.returns-clause-offered
returns-clause-offered g c =
    let observes = g.O.SeqObject.observing c.args.self.now.object.now in
    let pending = c.args.self.now.pending.now in
    offering_empty _ _ _ _ c.none.ensures (λ x there. let both = passed_by (λ (y : ℕ × (ℕ × Reply)). is_watching observes pending y.1.0) c.args.member.now.0.offers x there in c.may_be_watched.ensures c.if-may_be_watched.false x.1.0 both.1)
    (λ x gives. let one = gives.2 in c.may_be_watched.ensures c.if-may_be_watched.false gives.0.process one.1)
