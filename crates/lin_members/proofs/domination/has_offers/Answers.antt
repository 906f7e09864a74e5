use Rattle.std.proofs.Common.{ℕ, ◌≡◌, true, true≢false, All, subst, sym, ◌∙◌}
use Rattle.std.proofs.lemmas.List.Elements.{All-append}
use Rattle.lin_events.specs.declared.calls.Reply.{Reply}
use Rattle.lin_members.specs.Batches.{all_of}
use Rattle.lin_members.specs.Members.{IsOnOffer}
use Rattle.lin_frontier.specs.Placing.{IsAbsent}
use Rattle.lin_members.specs.Searching.{is_watching}
use Rattle.lin_members.proofs.Batching.{each_before, each_behind}
use Rattle.lin_members.proofs.domination.has_offers.Goals as goal

pub returns-then-has_all : goal.returns-then-has_all
returns-then-has_all g c =
    let older = all_of c.parts.result.0.now in
    let newest = c.parts.result.1.now in (
      λ t.
          subst (All (λ (x : ℕ × (ℕ × Reply)). is_watching (g.O.SeqObject.observing c.args.object.now) c.args.pending.now x.1.0 ≡ true → IsAbsent x.1.0 c.args.member.now.0.placed → IsOnOffer c.args.member.now.0 x.1)) (sym c.parts.ensures)
          (All-append (λ (x : ℕ × (ℕ × Reply)). is_watching (g.O.SeqObject.observing c.args.object.now) c.args.pending.now x.1.0 ≡ true → IsAbsent x.1.0 c.args.member.now.0.placed → IsOnOffer c.args.member.now.0 x.1) older newest (c.has_batches.ensures.0 t) (c.has_all.ensures.0 c.if-has_all.true)),
      λ all.
          c.has_batches.ensures.1
          (each_before (λ (x : ℕ × (ℕ × Reply)). is_watching (g.O.SeqObject.observing c.args.object.now) c.args.pending.now x.1.0 ≡ true → IsAbsent x.1.0 c.args.member.now.0.placed → IsOnOffer c.args.member.now.0 x.1) older newest
          (subst (All (λ (x : ℕ × (ℕ × Reply)). is_watching (g.O.SeqObject.observing c.args.object.now) c.args.pending.now x.1.0 ≡ true → IsAbsent x.1.0 c.args.member.now.0.placed → IsOnOffer c.args.member.now.0 x.1)) c.parts.ensures all)),
    )

pub returns-else-has_all : goal.returns-else-has_all
returns-else-has_all g c =
    let older = all_of c.parts.result.0.now in
    let newest = c.parts.result.1.now in (
      λ t. absurd (true≢false (sym t ∙ c.if-has_all.false)),
      λ all.
          c.has_all.ensures.1
          (each_behind (λ (x : ℕ × (ℕ × Reply)). is_watching (g.O.SeqObject.observing c.args.object.now) c.args.pending.now x.1.0 ≡ true → IsAbsent x.1.0 c.args.member.now.0.placed → IsOnOffer c.args.member.now.0 x.1) older newest
          (subst (All (λ (x : ℕ × (ℕ × Reply)). is_watching (g.O.SeqObject.observing c.args.object.now) c.args.pending.now x.1.0 ≡ true → IsAbsent x.1.0 c.args.member.now.0.placed → IsOnOffer c.args.member.now.0 x.1)) c.parts.ensures all)),
    )
