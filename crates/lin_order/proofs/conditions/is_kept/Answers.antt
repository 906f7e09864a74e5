use Rattle.lin_order.specs.lemmas.Lists.{no_since, yes_since}
use Rattle.lin_order.proofs.conditions.is_kept.Goals as goal

pub returns-in-Some : goal.returns-in-Some
returns-in-Some c = no_since (λ kept. let yes = kept c.in-Some.field-0.0 c.in-Some.field-0.1.now c.in-Some.ensures in let no = c.if-marked.false in cc)

pub returns-in-None : goal.returns-in-None
returns-in-None c = yes_since (λ end reply ok. absurd (c.in-None.ensures end reply ok))
