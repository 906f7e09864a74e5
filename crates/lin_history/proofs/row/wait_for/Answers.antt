use Rattle.std.proofs.Common.{sym, ◌∙◌}
use Rattle.lin_history.proofs.Waiting.{told_behind_fault}
use Rattle.lin_history.proofs.Taking.{told_event}
use Rattle.lin_history.proofs.row.wait_for.Goals as goal

pub returns-then-is_some : goal.returns-then-is_some
returns-then-is_some c = λ m v h. told_behind_fault m v c.args.waiting.now.items c.args.ends (sym c.is_some.ensures ∙ c.if-is_some.true)

pub returns : goal.returns
returns c =
    told_event c.put_event.result c.args.event c.args.waiting.now.items c.put_event.new.ready.items c.args.ends c.put_event.ensures.ok
    (sym c.is_some.ensures ∙ c.if-is_some.false)
