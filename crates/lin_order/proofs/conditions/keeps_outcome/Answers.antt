use Rattle.std.proofs.lemmas.Bool.Decides.{Decides-at}
use Rattle.lin_events.specs.Replies.{reply_Decides}
use Rattle.lin_order.specs.lemmas.Lists.{yes_since}
use Rattle.lin_order.proofs.Outcomes.{outcome_since}
use Rattle.lin_order.proofs.conditions.keeps_outcome.Goals as goal

pub returns-in-Some : goal.returns-in-Some
returns-in-Some c =
    outcome_since c.args.events.now c.args.placed.now c.in-Some.field-0-0 c.in-Some.reply.now (λ failed. let yes = c.is_failed.ensures.1 failed in let no = c.if-is_failed.false in cc)
    c.in-Some.ensures c.eq.result (Decides-at _ _ c.eq.ensures (reply_Decides c.args.placed.now.reply c.in-Some.reply.now))

pub returns-in-None : goal.returns-in-None
returns-in-None c = yes_since (record {
  not_failed = λ failed. let yes = c.is_failed.ensures.1 failed in let no = c.if-is_failed.false in cc;
  recorded = λ end reply ok. absurd (c.in-None.ensures end reply ok);
})
