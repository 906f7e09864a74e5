use Rattle.std.proofs.Common.{Err, ap, sym, ◌∙◌}
use Rattle.lin_formats.proofs.Taking.{fed_fault, fed_on, fed_too_much}
use Rattle.lin_formats.proofs.inputs.feed_piece.Goals as goal

pub returns-in_err-refusal_of-in-Err-clause-too_much : goal.returns-in_err-refusal_of-in-Err-clause-too_much
returns-in_err-refusal_of-in-Err-clause-too_much c = λ e.
    let same = rw e at c.from_residual.ensures.1 in
    fed_too_much c.args.names.now c.feed.new.names c.args.follow.now c.args.piece.now c.feed.new.self c.feed.ensures.begun c.some_numbering.ensures.numbering c.in-Err.fault
    (sym c.refusal_of.ensures ∙ c.in_err-refusal_of-in-Err.was ∙ ap Err (sym same)) c.in-Err.ensures.feeds

pub returns-in-Ok-clause-fed : goal.returns-in-Ok-clause-fed
returns-in-Ok-clause-fed c =
    fed_on c.args.names.now c.feed.new.names c.args.follow.now c.args.piece.now c.feed.new.self c.feed.ensures.begun c.some_numbering.ensures.numbering c.in-Ok.field-0 c.in-Ok.ensures.feeds

pub returns-in_ok-refusal_of-in-Err-clause-fed : goal.returns-in_ok-refusal_of-in-Err-clause-fed
returns-in_ok-refusal_of-in-Err-clause-fed c =
    fed_fault c.args.names.now c.feed.new.names c.args.follow.now c.args.piece.now c.feed.new.self c.feed.ensures.begun c.some_numbering.ensures.numbering c.in-Err.fault
    c.in_ok-refusal_of-in-Err.field-0 (sym c.refusal_of.ensures ∙ c.in_ok-refusal_of-in-Err.was) c.in-Err.ensures.feeds
