use Rattle.std.proofs.Common.{sym, ◌∙◌, true≢false}
use Rattle.std.proofs.lemmas.List.Elements.{Contains-get_or}
use Rattle.lin_events.specs.Replies.{reply_Decides}
use Rattle.lin_configurations.specs.lemmas.Visiting.{sifting_skip, sifting_hit, sifting_end}
use Rattle.lin_compressed_frontier.proofs.asking.state_with.Goals as goal

pub loop-state-init : goal.loop-state-init
loop-state-init g c = record { rest_of = λ k d l. Contains-get_or c.args.steps.now.items k d l; complete = λ s there. there }

pub returns-then-eq-clause-some : goal.returns-then-eq-clause-some
returns-then-eq-clause-some g c =
    sifting_hit _ _ c.loop-state.steps.items c.pop.new.self.items (c.in-Some.state, c.in-Some.answer) c.in-Some.ensures.items c.loop-state.invariant
    ((reply_Decides c.in-Some.answer c.args.reply.now).0 (sym c.eq.ensures ∙ c.if-eq.true))

pub loop-state-preserved : goal.loop-state-preserved
loop-state-preserved g c =
    sifting_skip _ _ c.loop-state.steps.items c.pop.new.self.items (c.in-Some.state, c.in-Some.answer) c.in-Some.ensures.items c.loop-state.invariant
    (λ same. true≢false (sym (c.eq.ensures ∙ (reply_Decides c.in-Some.answer c.args.reply.now).1 same) ∙ c.if-eq.false))

pub returns-clause-none : goal.returns-clause-none
returns-clause-none g c state there = sifting_end _ _ c.loop-state.steps.items (sym c.loop-state.steps.ok.0 ∙ c.in_default.ensures.cases.0) c.loop-state.invariant state there
