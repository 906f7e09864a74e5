use Rattle.std.proofs.Common.{ap, option_map, sym, ◌∙◌, subst}
use Rattle.std.specs.Str.{bytes_eq}
use Rattle.lin_events.specs.declared.calls.Reply.TheVariants.{Members}
use Rattle.lin_texts.specs.Orders.{reply_of, reply_written}
use Rattle.lin_texts.specs.Saying.{IsAsSaid}
use Rattle.lin_texts.proofs.Replies.{members_reply}
use Rattle.lin_texts.proofs.orders.read_reply.Goals as goal

pub returns-in-Some-2-clause-read : goal.returns-in-Some-2-clause-read
returns-in-Some-2-clause-read c =
    subst (λ r. IsAsSaid reply_of c.read_members.new.names (reply_written c.args.text.now) (option_map Members r)) c.in-Some-2.is
    (members_reply c.read_members.new.names c.args.text.now c.in-Some.inside.now c.in_ok-members-in-Some.field-0 (sym (c.eq.ensures ∙ ap (bytes_eq c.args.text.now) c.as_slice.ensures) ∙ c.if-eq.false)
    (sym (c.eq-2.ensures ∙ ap (bytes_eq c.args.text.now) c.as_slice-2.ensures) ∙ c.if-eq-2.false) c.in-Some.ensures.0 c.in-Some.ensures.1 c.in_ok-members-in-Some.ensures.read)
