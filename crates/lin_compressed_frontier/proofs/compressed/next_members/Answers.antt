use Rattle.std.proofs.Common.{sym, ◌∙◌, true≢false}
use Rattle.lin_frontier.specs.lemmas.Answered.{if_some_weaker}
use Rattle.lin_compressed_frontier.proofs.compressed.next_members.Goals as goal

pub returns-then-alone-clause-next : goal.returns-then-alone-clause-next
returns-then-alone-clause-next g c = if_some_weaker _ _ (λ out made other. absurd (true≢false (sym c.if-alone.true ∙ other))) c.after_ok.result c.after_ok.ensures.next
