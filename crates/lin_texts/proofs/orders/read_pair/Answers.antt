use Rattle.std.proofs.Common.{option_map, subst}
use Rattle.lin_texts.specs.Orders.{pair_of, pair_written}
use Rattle.lin_texts.specs.Saying.{IsAsSaid}
use Rattle.lin_texts.proofs.Replies.{pair_read, placed_at}
use Rattle.lin_texts.proofs.orders.read_pair.Goals as goal

pub returns-in-Some-2-clause-read : goal.returns-in-Some-2-clause-read
returns-in-Some-2-clause-read c =
    subst (λ r. IsAsSaid pair_of c.read_reply.new.names (pair_written c.args.word.now) (option_map (placed_at c.in-Some-number.at) r)) c.in-Some-2.is
    (pair_read c.read_reply.new.names c.args.word.now c.in-Some.sign c.in-Some-number.at c.in_ok-reply.field-0 c.in-Some.ensures.place c.in-Some-number.ensures
    c.in_ok-reply.ensures.read)

pub returns-in-None-clause-read : goal.returns-in-None-clause-read
returns-in-None-clause-read c =
    subst (λ r. IsAsSaid pair_of c.read_reply.new.names (pair_written c.args.word.now) (option_map (placed_at c.in-Some-number.at) r)) c.in-None.is
    (pair_read c.read_reply.new.names c.args.word.now c.in-Some.sign c.in-Some-number.at c.in_ok-reply.field-0 c.in-Some.ensures.place c.in-Some-number.ensures
    c.in_ok-reply.ensures.read)
