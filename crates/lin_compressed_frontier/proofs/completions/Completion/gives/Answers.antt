use Rattle.std.proofs.Common.{refl, sym, ◌∙◌, true≢false}
use Rattle.std.proofs.lemmas.List.Elements.{Contains-get_or}
use Rattle.lin_events.specs.Replies.{reply_Decides}
use Rattle.lin_configurations.specs.lemmas.Visiting.{sifting_skip, sifting_hit, sifting_end}
use Rattle.lin_compressed_frontier.proofs.completions.Completion.gives.Goals as goal

pub loop-reply-init : goal.loop-reply-init
loop-reply-init g c = record {
  rest_of = λ k d l. c.in_ok-outcomes.ensures.sound _ _ (Contains-get_or c.outcomes.new.out.items k d l);
  complete = λ s p. c.in_ok-outcomes.ensures.complete s c.args.self.now.reply.now p;
}

pub returns-then-eq-clause-given : goal.returns-then-eq-clause-given
returns-then-eq-clause-given g c = (
  λ _. (
    c.in-Some.field-0-0,
    sifting_hit _ _ c.loop-reply.steps.items c.pop.new.self.items (c.in-Some.field-0-0, c.in-Some.reply) c.in-Some.ensures.items c.loop-reply.invariant
        ((reply_Decides c.in-Some.reply c.args.self.now.reply.now).0 (sym c.eq.ensures ∙ c.if-eq.true)),
  ),
  λ _. refl,
)

pub loop-reply-preserved : goal.loop-reply-preserved
loop-reply-preserved g c =
    sifting_skip _ _ c.loop-reply.steps.items c.pop.new.self.items (c.in-Some.field-0-0, c.in-Some.reply) c.in-Some.ensures.items c.loop-reply.invariant
    (λ same. true≢false (sym (c.eq.ensures ∙ (reply_Decides c.in-Some.reply c.args.self.now.reply.now).1 same) ∙ c.if-eq.false))

pub returns-clause-given : goal.returns-clause-given
returns-clause-given g c = (
  λ t. absurd (true≢false (sym t)),
  λ p. absurd (sifting_end _ _ c.loop-reply.steps.items (sym c.loop-reply.steps.ok.0 ∙ c.in_default.ensures.cases.0) c.loop-reply.invariant p.0 p.1),
)
