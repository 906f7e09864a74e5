use Rattle.std.proofs.Common.{◌∙◌, sym, subst}
use Rattle.lin_history.specs.Stream.{IsStream}
use Rattle.lin_formats.proofs.Taking.{fed_passed, fed_refused, no_other_end, stream_of}
use Rattle.lin_formats.proofs.inputs.finish_history.Goals as goal

pub returns-in_err-refusal_of-in-Err-clause-said : goal.returns-in_err-refusal_of-in-Err-clause-said
returns-in_err-refusal_of-in-Err-clause-said c = λ bytes fed.
    absurd (no_other_end c.args.names.now c.args.follow.now bytes c.args.events.items c.in-Err.fault c.in_err-refusal_of-in-Err.field-0.0 c.some_numbering.ensures.numbering fed
    (sym c.finish.ensures ∙ c.in-Err.is) (sym c.refusal_of.ensures ∙ c.in_err-refusal_of-in-Err.was))

pub returns-in-Ok-clause-said : goal.returns-in-Ok-clause-said
returns-in-Ok-clause-said c = λ bytes fed. (
  λ m reading. subst (IsStream m bytes c.args.events.items) (sym c.finish.ensures ∙ c.in-Ok.is) (stream_of c.args.names.now c.args.follow.now bytes c.args.events.items fed m reading),
  fed.within,
)

pub returns-in_ok-refusal_of-in-Err-clause-said : goal.returns-in_ok-refusal_of-in-Err-clause-said
returns-in_ok-refusal_of-in-Err-clause-said c = λ bytes fed.
    fed_refused c.args.names.now c.args.follow.now bytes c.args.events.items c.in-Err.fault c.in_ok-refusal_of-in-Err.field-0 fed (sym c.finish.ensures ∙ c.in-Err.is)
    (sym c.refusal_of.ensures ∙ c.in_ok-refusal_of-in-Err.was)

pub returns-in-Ok-clause-passed : goal.returns-in-Ok-clause-passed
returns-in-Ok-clause-passed c = λ bytes fed. fed_passed c.args.names.now c.args.follow.now bytes c.args.events.items c.some_numbering.ensures.numbering fed (sym c.finish.ensures ∙ c.in-Ok.is)
