use Rattle.std.proofs.Common.{◌∙◌, Some, ap, sym, rules}
use Rattle.lin_events.specs.Replies.{call_same}
use Rattle.lin_members.proofs.offers.is_known.Goals as goal

pub returns-in-Some : goal.returns-in-Some
returns-in-Some c = λ h. c.in-Some.is ∙ ap Some (call_same c.in-Some.other c.args.call.now (sym c.eq.ensures ∙ h))

pub returns-in-None : goal.returns-in-None
returns-in-None c = search rules
