use Rattle.std.proofs.Common.{List, Option, option_map, subst}
use Rattle.std.proofs.lemmas.Result.{IfOk-weaker}
use Rattle.lin_events.specs.declared.calls.Reply.{Reply}
use Rattle.lin_events.specs.declared.events.Event.{Event}
use Rattle.lin_possibilities.specs.Outcomes.{Failing}
use Rattle.lin_explain.specs.Own.{without_last}
use Rattle.lin_explain.specs.Possible.{IsPossibleText}
use Rattle.lin_explain.proofs.failures.put_before_failure.Goals as goal

pub returns : goal.returns
returns c =
    let failure = c.args.failure.now in
    let h = failure.stretch.events.now in
    let f : List Event → Option Reply → Failing = λ events recorded. record { kind = failure.kind; events = events; call = failure.call; process = c.args.ending.now.process; recorded = recorded } in
    IfOk-weaker c.put_possible.result _ _
    (λ told is. (
      is.0,
      subst (λ r. IsPossibleText failure.stretch.names.now (f (without_last h) r) failure.prefix failure.budget is.0 told.replies told.states) c.reply_of.ensures
          (subst (λ l. IsPossibleText failure.stretch.names.now (f l (option_map (λ r. r.now) c.reply_of.result)) failure.prefix failure.budget is.0 told.replies told.states) c.without_last.ensures is.1),
      is.2,
    )) c.put_possible.ensures
