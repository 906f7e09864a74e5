use Rattle.std.proofs.Common.{ap, inl, inr, not, refl, sym, ◌∙◌, true≢false}
use Rattle.indexmap.proofs.MapLemmas.{OnOk-map}
use Rattle.lin_events.specs.Replies.{reply_Decides}
use Rattle.lin_frontier.specs.lemmas.Masking.{not_false}
use Rattle.lin_compressed_frontier.proofs.completions.Completion.put_update.Goals as goal

pub returns-then-ne-clause-taken : goal.returns-then-ne-clause-taken
returns-then-ne-clause-taken g c = inl (λ same. absurd (true≢false (sym c.if-ne.true ∙ c.ne.ensures ∙ ap not ((reply_Decides c.args.reply c.args.self.now.reply.now).1 same))), refl)

pub returns-clause-taken : goal.returns-clause-taken
returns-clause-taken g c = OnOk-map c.put_state.result _ _ (λ taken. inr ((reply_Decides c.args.reply c.args.self.now.reply.now).0 (not_false _ (sym c.ne.ensures ∙ c.if-ne.false)), taken)) c.put_state.ensures.taken
