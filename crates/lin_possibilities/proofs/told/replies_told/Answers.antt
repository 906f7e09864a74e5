use Rattle.std.proofs.Common.{List, subst}
use Rattle.std.specs.Prelude.{Option, option_map}
use Rattle.std.specs.List.{AllZip}
use Rattle.lin_events.specs.declared.items.Item.{Item}
use Rattle.lin_possibilities.specs.After.{IsWay}
use Rattle.lin_possibilities.specs.Possible.{Answers}
use Rattle.lin_possibilities.specs.Ranks.{members_in, reply_rank}
use Rattle.lin_possibilities.specs.declared.possibilities.Possibility.TheVariants.{Reply as AReply}
use Rattle.lin_possibilities.specs.inner.OutcomesTelling.{IsTold}
use Rattle.lin_possibilities.proofs.OutcomesTelling.{told_in_order}
use Rattle.lin_possibilities.proofs.told.replies_told.Goals as goal

pub returns : goal.returns
returns c = λ functions kind h well after running.
    let names = c.args.names.now in
    let found = c.in_ok-found.found.items in
    let told = c.in_ok-all_replies.field-0.items in
    let members : Option (List Item) = members_in (option_map (λ r. r.now) c.args.recorded) in
    told_in_order names (Answers kind h c.args.process) (IsWay c.args.possible.now) (reply_rank names members) AReply found told c.in_order.result.items
    (c.in_ok-found.ensures functions kind h well after (λ crashed. running crashed.0 crashed.1 crashed.2 crashed.3 crashed.4))
    (subst (λ m. AllZip (IsTold names (reply_rank names m) AReply) found told) c.recorded_members-members.ensures
    (subst (λ l. AllZip (IsTold names (reply_rank names (option_map (λ m. m.now) c.recorded_members-members.result)) AReply) l told) c.as_slice.ensures.value c.in_ok-all_replies.ensures))
    c.in_order.ensures.permutation c.in_order.ensures.rising
